-- `updates_keep` meets its contract: the updates from j on decide, and none of those before it adds what they add.
use Prim.Native.Nat.{◌+◌, ◌*◌, ◌%◌}
use mathlib.Core.Path.{◌≡◌, ◌∙◌, ap, ap₂, sym}
use mathlib.Core.Bool.{◌&&◌}
use lib.Bits.{bit_and, bit_or}
use lib.Dec.{eqb}
use borrow.Author.Rules.{rules}
use Rattle.model.specs.Records.{word}
use Rattle.update.proofs.Bits.{masked}
use Rattle.update_layout.specs.Kept.{codes_in, update_keeps}
use Rattle.update_layout.proofs.Disjoint.{kept_end, kept_fail, kept_pass, kept_start, kept_from, updates_from}
use Rattle.update_layout.proofs.updates_keep.Goals as goal
use Rattle.update_layout.proofs.updates_keep.Goals.{After-update_keeps}

pub loop-j-init : goal.loop-j-init
loop-j-init c = let a = c.args in kept_start (update_keeps a.nodes (codes_in a.guards)) a.rec.now a.new

-- what the two tests say together
tested : (c : After-update_keeps)
    → let a = c.args in
    let l = c.loop-j in
    c.update_keeps.result && eqb (bit_and l.seen (bit_and c.two-update.result 0x0fff)) 0
    ≡ update_keeps a.nodes (codes_in a.guards) (word a.rec.now (8 + 2 * l.j))
    && eqb (bit_and l.seen (word a.rec.now (8 + 2 * l.j) % 4096)) 0
tested c =
    let a = c.args in
    let l = c.loop-j in
    let u = c.two-update in
    ap₂ ◌&&◌ (c.update_keeps.ensures ∙ ap (update_keeps a.nodes (codes_in a.guards)) u.ensures)
    (ap (λ m. eqb (bit_and l.seen m) 0) (masked u.result ∙ ap (λ w. w % 4096) u.ensures))

pub returns-then-not-update_keeps-seen : goal.returns-then-not-update_keeps-seen
returns-then-not-update_keeps-seen c =
    let a = c.args in
    let l = c.loop-j in
    kept_fail (update_keeps a.nodes (codes_in a.guards)) l.seen a.rec.now l.j a.new l.invariant (search rules)
    (sym (tested (goal.at.returns-then-not-update_keeps-seen c).After-update_keeps) ∙ c.if-not-update_keeps-seen.true)

pub loop-j-preserved : goal.loop-j-preserved
loop-j-preserved c =
    let a = c.args in
    let l = c.loop-j in
    let p = update_keeps a.nodes (codes_in a.guards) in
    let u = c.two-update in
    kept_pass p l.seen a.rec.now l.j a.new l.invariant (search rules)
    (sym (tested (goal.at.loop-j-preserved c).After-update_keeps) ∙ c.if-not-update_keeps-seen.false)
    ∙ ap (λ m. kept_from p (bit_or l.seen m) (updates_from a.rec.now (l.j + 1) a.new))
    (sym (masked u.result ∙ ap (λ w. w % 4096) u.ensures))

pub returns : goal.returns
returns c =
    let l = c.loop-j in
    let a = c.args in
    kept_end (update_keeps a.nodes (codes_in a.guards)) l.seen a.rec.now l.j a.new l.invariant (search rules)
