-- `way::view` meets its contract: a relink looks at what both its pointers hold, any other statement at one value.
use mathlib.Core.Logic.{inl, inr}
use mathlib.Core.Path.{◌∙◌, ap, ap₂}
use Rattle.model.specs.Edges.{view_pair, view_val}
use Rattle.way.proofs.view.Goals as goal

pub returns-in-Load : goal.returns-in-Load
returns-in-Load c cs = rw c.in-Load.is (c.one.ensures ∙ ap view_val (c.held_by.ensures cs))

pub returns-in-Clear : goal.returns-in-Clear
returns-in-Clear c cs =
    let held = c.one-in-Clear.ensures ∙ ap view_val (c.held_by-in-Clear.ensures cs) in
    elim c.in-Clear.is [
      | inl e ↦ rw e held
      | inr f ↦ elim f [ inl e ↦ rw e held | inr e ↦ rw e held ]
    ]

pub returns-in-Relink : goal.returns-in-Relink
returns-in-Relink c cs =
    rw c.in-Relink.is
    (c.both.ensures ∙ ap₂ view_pair (c.held_by-in-Relink.ensures cs) (c.held_by-in-Relink-2.ensures cs))
