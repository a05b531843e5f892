-- `index::find` meets its contract: the chain of the hash is followed from its head.
use mathlib.Core.Path.{sym, ap, subst, ◌∙◌}
use native.Mathlib.Omega.{arith}
use Rattle.model.specs.Answers.{found_of}
use Rattle.index.specs.Index.{after}
use Rattle.index.proofs.Chains.{Follows, chain_less, follow_chain, follow_head, low}
use Rattle.index.proofs.find.Goals as goal

pub entry-next-requires : goal.entry-next-requires
entry-next-requires c =
    let R = c.requires in
    omega (arith, low _ _ _ _ _ R, R.index_of.indexed.size)

pub loop-next-init : goal.loop-next-init
loop-next-init c =
    subst (Follows _ _ _ _ _) (sym c.entry-next.ensures)
    (follow_head _ _ _ _ _ c.requires)

pub loop-next-smaller : goal.loop-next-smaller
loop-next-smaller c =
    let d = c in
    let l = d.loop-next in
    let s = c.in-Some in
    let e = ap (λ o. after (found_of o)) s.is in
    omega (arith, c.entry-next-in-Some.ensures, chain_less _ _ _ _ _ _ l.invariant s.j e, e)

pub loop-next-preserved : goal.loop-next-preserved
loop-next-preserved c =
    let d = c in
    let l = d.loop-next in
    let s = c.in-Some in
    subst (Follows _ _ _ _ _) (sym c.entry-next-in-Some.ensures)
    (follow_chain _ _ _ _ _ _ l.invariant s.j (ap (λ o. after (found_of o)) s.is)
    (sym c.same_at.ensures ∙ c.if-same_at.false))
