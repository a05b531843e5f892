-- `fields_keep` meets its contract: each test is one of the layout's clauses, or several.
use Prim.Native.Nat.{◌+◌, ◌*◌}
use mathlib.Core.Path.{◌≡◌, ◌∙◌, ap, ap₂, sym}
use mathlib.Core.Bool.{◌&&◌}
use Rattle.model.specs.Base.{all}
use Rattle.model.specs.Records.{is_zero}
use Rattle.model.specs.Structs.{code_in}
use Rattle.model.proofs.lists.Logic.{and_l, and_r}
use Rattle.model.proofs.lists.Slices.{part_from}
use Rattle.update_layout.specs.Kept.{guard_ok}
use Rattle.edge_layout.proofs.Fields.{guards_off, head_off, left_is}
use Rattle.edge_layout.proofs.fields_keep.Goals as goal
use Rattle.edge_layout.proofs.fields_keep.Goals.{After-guard_keeps-2}

pub returns-then-rec : goal.returns-then-rec
returns-then-rec c n ends =
    let a = c.args in head_off n a.nodes a.new a.rec.now c.if-rec.true

-- both guards as they were judged
judged : (c : After-guard_keeps-2)
    → let k = c.args.nodes in
    let g = c.guards_of-guards.result in
    c.guard_keeps.result && c.guard_keeps-2.result
    ≡ guard_ok k (code_in g.first) && guard_ok k (code_in g.second)
judged c = ap₂ ◌&&◌ c.guard_keeps.ensures c.guard_keeps-2.ensures

pub returns-then-not-guard_keeps : goal.returns-then-not-guard_keeps
returns-then-not-guard_keeps c n ends =
    let s = c in
    let g = c.guards_of-guards in
    guards_off n s.args.nodes s.args.new s.args.rec.now (code_in g.result.first)
    (code_in g.result.second) g.ensures
    (sym (judged (goal.at.returns-then-not-guard_keeps c).After-guard_keeps-2) ∙ c.if-not-guard_keeps.true)

pub updates_keep-requires : goal.updates_keep-requires
updates_keep-requires c =
    let s = c in
    let g = c.guards_of-guards.result in
    let ok = sym (judged (goal.at.updates_keep-requires c).After-guard_keeps-2) ∙ c.if-not-guard_keeps.false in
    let a = guard_ok s.args.nodes (code_in g.first) in
    let b = guard_ok s.args.nodes (code_in g.second) in
    (s.requires.0, s.requires.1, s.requires.2, record { first = and_l a b ok; second = and_r a b ok })

pub returns : goal.returns
returns c n ends =
    let d = c in
    let s = d in
    let g = d.guards_of-guards in
    let r = s.args.rec.now in
    ap₂ ◌&&◌ c.updates_keep.ensures
    (c.all_zero.ensures ∙ ap (all is_zero) (part_from r (8 + 2 * s.args.new)))
    ∙ left_is n s.args.nodes s.args.new r (code_in g.result.first) (code_in g.result.second) g.ensures
    ends d.if-rec.false
    (sym (judged (goal.at.returns c).After-guard_keeps-2) ∙ d.if-not-guard_keeps.false)
