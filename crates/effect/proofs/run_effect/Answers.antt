-- `run_effect` meets its contract: each arm is the effect of its op.
use mathlib.Core.Logic.{inl, inr}
use mathlib.Core.Path.{refl}
use native.Mathlib.Omega.{arith}
use Rattle.std.proofs.lemmas.Result.{err_from_is_err_and}
use Rattle.model.specs.Image.{heap_of}
use Rattle.effect.proofs.Bytes.{as_effect, named_u, named_w, new_ran, ready_w, room_x, set_ran, value_w}
use borrow.Author.Rules.{rules}
use Rattle.effect.proofs.run_effect.Goals as goal

pub load_through-requires : goal.load_through-requires
load_through-requires c = (search rules, named_w c.requires)

pub store_through-requires : goal.store_through-requires
store_through-requires c = (named_u c.requires, λ e. omega arith)

pub store_through-requires-in-Store : goal.store_through-requires-in-Store
store_through-requires-in-Store c = let p = c.requires in (named_u p, value_w p)

pub new_cell-requires : goal.new_cell-requires
new_cell-requires c =
    let p = c.requires in
    (search rules, room_x p c.in-New.is, p.few)

pub relink_through-requires : goal.relink_through-requires
relink_through-requires c = let p = c.requires in (named_u p, named_w p)

pub free_at-requires : goal.free_at-requires
free_at-requires c = let p = c.requires in (named_u p, p.few)

pub returns-in-SetNull : goal.returns-in-SetNull
returns-in-SetNull c =
    let a = c.args in
    rw c.set_pointer.ensures
    (as_effect (set_ran a.pointers.now a.cells.now a.d.u.0 0xfe)
    (elim c.in-SetNull.is [ inl e ↦ rw e | inr e ↦ rw e ]))

pub returns-in-Copy : goal.returns-in-Copy
returns-in-Copy c =
    let a = c.args in
    rw c.set_pointer-in-Copy.ensures
    (as_effect (set_ran a.pointers.now a.cells.now a.d.u.0 _) (rw (c.in-Copy.is, ready_w c.requires)))

pub returns-in-New : goal.returns-in-New
returns-in-New c =
    let a = c.args in
    let p = c.requires in
    rw (c.new_cell.ensures.0, c.new_cell.ensures.1)
    (as_effect (new_ran a.pointers.now a.cells.now a.d.u.0 a.x (room_x p c.in-New.is) p.few) (rw c.in-New.is))

pub returns-in_err-test_fault-in_default : goal.returns-in_err-test_fault-in_default
returns-in_err-test_fault-in_default c =
    let a = c.args in
    let r = c.from_residual-in_err-test_fault-in_default in
    let p = err_from_is_err_and r.result r.ensures.1 in
    record {
      outcome = rw (p.1, p.2)
          (c.in_err-test_fault-in_default.ensures a.x (heap_of a.pointers.now a.cells.now) refl);
      stays = λ z. (refl, refl);
    }
