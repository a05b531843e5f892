-- `updates_keep` meets its contract: the updates from j on decide, and none of those before it adds what they add.
use mathlib.Core.Path.{◌≡◌}
use mathlib.Core.Bool.{◌&&◌}
use Rattle.model.specs.Base.{all}
use Rattle.model.specs.Layout.{added_once}
use Rattle.model.specs.Runs.{updates_of}
use Rattle.update_layout.specs.Kept.{codes_in, update_keeps}
use Rattle.update_layout.proofs.Disjoint.{kept_from, updates_from}
use Rattle.update_layout.proofs.updates_keep.Given as goal

abbrev pub invariant-loop-j : goal.invariant-loop-j
invariant-loop-j l =
    all (update_keeps l.nodes (codes_in l.guards)) (updates_of l.new l.rec) && added_once (updates_of l.new l.rec)
    ≡ kept_from (update_keeps l.nodes (codes_in l.guards)) l.seen (updates_from l.rec l.j l.new)
