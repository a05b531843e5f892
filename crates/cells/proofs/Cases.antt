-- Small cases that are computed.
use mathlib.Core.Path.{◌≡◌, refl}
use Rattle.cells.specs.Balance.{nothing}
