-- `falls` meets its contract: a guard that asks for 2 is enough; else the counters that are added
-- are counted.
use Prim.Native.Nat.{◌+◌, ◌/◌}
use mathlib.Core.Path.{◌≡◌, ◌∙◌, ap}
use mathlib.Core.Bool.{true, false, ◌||◌}
use native.Mathlib.Omega.{arith}
use lib.Bits.{bit_and}
use lib.Count.{ones-le}
use lib.Dec.{ltb}
use Rattle.model.specs.Structs.{code_in}
use Rattle.update.proofs.Bits.{masked}
use Rattle.update_layout.specs.Kept.{asks, exclude}
use Rattle.update_layout.proofs.Least.{Sound, falls_else, falls_never, sound}
use Rattle.update_layout.proofs.falls.Goals as goal
use Rattle.update_layout.proofs.falls.Goals.{Start}

first_sound : (c : Start) → Sound c.args.nodes (code_in c.args.guards.first)
first_sound c = sound c.args.nodes (code_in c.args.guards.first) c.requires.3.first

second_sound : (c : Start) → Sound c.args.nodes (code_in c.args.guards.second)
second_sound c = sound c.args.nodes (code_in c.args.guards.second) c.requires.3.second

pub asks-requires : goal.asks-requires
asks-requires c = let s = c in (first_sound (goal.at.asks-requires c).Start).low s.requires.0

pub asks-requires-2 : goal.asks-requires-2
asks-requires-2 c = let s = c in (second_sound (goal.at.asks-requires-2 c).Start).low s.requires.0

pub returns-then-exclude-asks : goal.returns-then-exclude-asks
returns-then-exclude-asks c =
    let s = c in
    let u = s.args.update in
    let a = code_in s.args.guards.first in
    let b = code_in s.args.guards.second in
    let e : exclude a b || asks a u || asks b u ≡ true = cc in
    falls_never s.args.nodes u a b s.requires.0 s.requires.1 s.requires.2
    (first_sound (goal.at.returns-then-exclude-asks c).Start)
    (second_sound (goal.at.returns-then-exclude-asks c).Start) e

pub overflow_add-result : goal.overflow_add-result
overflow_add-result c =
    let u = c.args.update in
    let m = masked u in
    let few = ones-le 12 (bit_and u 0x0fff) (omega arith) in
    let e = c.counters_added.ensures.0 in
    let fits = c.ranges.update in
    omega arith

pub returns : goal.returns
returns c =
    let s = c in
    let u = s.args.update in
    let a = code_in s.args.guards.first in
    let b = code_in s.args.guards.second in
    let e : exclude a b || asks a u || asks b u ≡ false = cc in
    ap (λ n. ltb (n + u / 4096) 2) c.counters_added.ensures.1
    ∙ falls_else s.args.nodes u a b s.requires.0 s.requires.1 s.requires.2 (first_sound (goal.at.returns c).Start)
    (second_sound (goal.at.returns c).Start) e
