-- `free_at` meets its contract, by the laws of a free of each kind of value.
use mathlib.Core.Path.{◌≡◌}
use native.Mathlib.Omega.{arith}
use Rattle.effect.proofs.Bytes.{free_null, free_undef, free_cell_lem}
use borrow.Author.Rules.{rules}
use Rattle.effect.proofs.free_at.Goals as goal

pub returns-then-at-eq-NULL : goal.returns-then-at-eq-NULL
returns-then-at-eq-NULL c =
    let a = c.args in free_null a.pointers.now a.cells.now a.at c.if-at-eq-NULL.true

pub returns-then-at-eq-UNDEFINED : goal.returns-then-at-eq-UNDEFINED
returns-then-at-eq-UNDEFINED c =
    let a = c.args in
    free_undef a.pointers.now a.cells.now a.at c.if-at-eq-UNDEFINED.true

pub bounds-cells-c : goal.bounds-cells-c
bounds-cells-c c =
    let s = c in
    let p : s.args.at ≡ 0xfe → ⊥ = search rules in
    let q : s.args.at ≡ 0xff → ⊥ = search rules in
    let h = (s.requires.0 p q).0 in
    omega (arith, c.wipe_holders-2.auto.list)

pub returns : goal.returns
returns c =
    let s = c in
    let a = s.args in
    let p : a.at ≡ 0xfe → ⊥ = search rules in
    let q : a.at ≡ 0xff → ⊥ = search rules in
    let w = c in
    rw (w.wipe_holders.ensures, w.wipe_holders-2.ensures)
    (free_cell_lem a.pointers.now a.cells.now a.at p q s.requires.0 s.requires.1)
