-- Where no cell is lost, the marks tell the core cells of the heap as it is.
use Prim.Native.Nat.{ℕ}
use mathlib.Core.Path.{◌≡◌, ap, ◌∙◌}
use mathlib.Core.Bool.{true}
use mathlib.Core.List.{List}
use Rattle.model.specs.Heap.{kept}
use Rattle.model.specs.Image.{heap_of}
use Rattle.model.specs.Shape.{core}
use Rattle.model.proofs.expansion.Collect.{collect_same}
use Rattle.model.proofs.expansion.Facts.{test_kept}
use Rattle.visit.specs.Visit.{Held, Visited}

pub kept_held : {ps cs o s : List ℕ} {r : ℕ} → Visited ps cs o s r → kept (heap_of ps cs) ≡ true → Held ps cs s
kept_held {ps = ps} {cs = cs} d k c h =
    d.held c h ∙ ap (λ g. core g c) (collect_same (heap_of ps cs) (test_kept (heap_of ps cs) k))
