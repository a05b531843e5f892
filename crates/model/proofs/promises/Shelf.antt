-- "The cases marked P below hold for the definitions, shown together as one table": computed through the whole
-- translator.
use mathlib.Core.Path.{◌≡◌, refl}
use mathlib.Core.Bool.{true}
use Rattle.model.specs.Base.{all}
use Rattle.model.specs.Cases.{cases, holds_for}
use Rattle.model.specs.Translate.{check, listing, translate}

pub shelf : all holds_for cases ≡ true
unfolding check listing translate
shelf = refl
