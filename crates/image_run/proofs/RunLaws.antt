-- The run of a statement on an image: what it asks of `machine`, the run where nothing can be lost, and the image put
-- back at a fault.
use Prim.Native.Nat.{ℕ, ◌<◌}
use native.Mathlib.Omega.{arith}
use mathlib.Core.Path.{◌≡◌, ap, subst, sym, ◌∙◌}
use mathlib.Core.List.{List, map}
use lib.Dec.{eqb}
use lib.ListN.{get_or-replicate, length, length-map, replicate}
use Rattle.model.specs.Machine.{action, collects, done, effect, kind, settle}
use Rattle.model.specs.Image.{heap_of}
use Rattle.model.specs.Records.{val_of}
use Rattle.model.specs.Structs.{op_in}
use Rattle.model.specs.declared.Decoded.{Decoded}
use Rattle.model.proofs.expansion.Collect.{settle_kept}
use Rattle.model.proofs.lists.Logic.{bool_case}
use Rattle.effect.specs.Effect.{HasEffect}
use Rattle.effect.proofs.Bytes.{named_u}
use Rattle.effect.proofs.Laws.{effect_closed}
use Rattle.machine.proofs.RunLaws.{at_end}
use Rattle.machine.specs.Run.{IsRun, RunReady, bytes}
use Rattle.std.specs.Prelude.{Result, Ok, Err}
use Rattle.model.specs.Codes.{fault_in, op_number}
use Rattle.model.specs.declared.codes.Fault.{Fault}
use Rattle.image_run.specs.Run.{RunOn, StepReady}
use Rattle.image_run.specs.Taken.{Stands, TakenReady, takes}
use Rattle.image_run.proofs.Kept.{effect_kept, maker, maker_op}

module _ {d : Decoded} {x : ℕ} {ps cs : List ℕ} where
  -- the room for the visit, which begins with zeros
  pub run_ready : StepReady d x ps cs
      → RunReady d x (bytes ps cs) (replicate 240 0) (replicate 240 0)
  run_ready s =
      let f = s.ready.few in
      record {
        ready = s.ready;
        fresh = s.fresh;
        room = omega arith;
        marks = omega arith;
        clear = λ c l. get_or-replicate 240 c 0 0 (omega arith);
      }

  -- what is taken away is known
  pub taken_ready : StepReady d x ps cs → TakenReady d ps cs
  taken_ready s =
      let r = s.ready in
      record {
        fields = record { known = r.known; is_u = r.is_u; is_w = r.is_w };
        six = r.six;
        named = named_u r;
      }

  -- a pointer that takes a cell is one of the six
  maker_below : StepReady d x ps cs → maker (action (op_in d)) < length (heap_of ps cs).ptrs
  maker_below s =
      let r = s.ready in
      let six = length-map ps val_of ∙ r.six in
      let u = r.is_u in
      let m = maker_op (op_number d.op) d.u.0 d.w.0 r.known in
      bool_case (eqb (op_number d.op) 6) (λ e. let q : maker (action (op_in d)) ≡ d.u.0 = m ∙ rw e in omega arith)
      (λ e. let q : maker (action (op_in d)) ≡ 0 = m ∙ rw e in omega arith)

  -- where it is no cell or a pointer holds it, nothing is lost, and the effect is all there is to the run
  pub ran_kept : StepReady d x ps cs → {qs ds : List ℕ} → HasEffect (effect (op_in d) x) ps cs 0 qs ds
      → (v : ℕ) → val_of v ≡ takes (action (op_in d)) (heap_of ps cs) → Stands (val_of v) (map val_of qs)
      → RunOn d x ps cs 0 qs ds
  ran_kept s {qs} {ds} e v t k =
      let a = action (op_in d) in
      let h = heap_of ps cs in
      let g = heap_of qs ds in
      let f : effect (op_in d) x h ≡ done g = sym e.outcome in
      let c = effect_closed a x h g s.ready.is_closed s.fresh f in
      let b = collects (kind (op_in d)) in
      record {
        outcome = sym (ap (settle b) f ∙ settle_kept b g
            (effect_kept a x h g s.ready.is_closed c s.is_kept s.fresh (maker_below s) f
            (subst (λ y. Stands y g.ptrs) t k)));
      }

  -- a run whose lost cells are settled
  pub settled : {qs ds o s : List ℕ} (r : Result (Unit {0}) Fault) (n : ℕ)
      → IsRun d x (bytes ps cs) (bytes qs ds) o s (at_end r n) → RunOn d x ps cs (fault_in r) qs ds
  settled (Ok t) n r = record { outcome = r.outcome }
  settled (Err f) n r = record { outcome = r.outcome }
