-- The run by a ready way: the opened image is one that the machine can run, and what the run gives is what the way's
-- heap gives.
use Prim.Native.Nat.{ℕ, zero, suc, ◌+◌, ◌≤◌}
use mathlib.Core.Path.{◌≡◌, refl, sym, ap, subst, ◌∙◌}
use mathlib.Core.Bool.{true}
use mathlib.Core.List.{List, [], ◌++◌, map}
use native.Mathlib.Omega.{arith}
use lib.ListN.{drop, get_or, length, replicate, take}
use lib.Seq.{length-take-le, take_at}
use Rattle.model.specs.Heap.{Heap, Val, closed, null, same_val, undef}
use Rattle.model.specs.Image.{heap_of}
use Rattle.model.specs.Machine.{Effect, Kind, action, acts, branch, branch_by, carry_out, drops, from, halts, kind, nil, picks, test, tests}
use Rattle.model.specs.Notions.{Room}
use Rattle.model.specs.Records.{byte, shape_of, val_of}
use Rattle.model.specs.Structs.{op_in}
use Rattle.model.specs.declared.Decoded.{Decoded}
use Rattle.machine.specs.Run.{IsRun, RunReady, bytes}
use Rattle.std.specs.Prelude.{Ok, Err}
use Rattle.model.specs.Codes.{fault_code, op_number}
use Rattle.model.specs.declared.codes.Fault.{Fault}
use Rattle.model.specs.declared.codes.Fault.TheVariants as fault
use Rattle.effect.specs.Effect.{effect_of}
use Rattle.way.proofs.Heaps.{opened_closed, opened_end, opened_room, opened_run}
use Rattle.way.proofs.Opened.{count_most}
use Rattle.way.proofs.Ready.{node_used, nodes_few, nodes_is, pointers_six, shape_is_lem}
use Rattle.way.specs.Ready.{WayReady}
use Rattle.way.specs.Way.{opened_count, opened_heap, way_in}
use Rattle.way.specs.declared.Way.{Way}
use Rattle.shape_run.specs.WayRun.{WayRan}

-- the pointers alone decide the branch
pub branch_pointers : (k : Kind) (p : ℕ) (g h : Heap) → g.ptrs ≡ h.ptrs → branch_by k p g ≡ branch_by k p h
branch_pointers halts p g h e = refl
branch_pointers (acts a) p g h e = refl
branch_pointers (drops u) p g h e = refl
branch_pointers (tests u nil) p g h e = ap (λ (l : List Val). test (same_val (get_or l u undef) null)) e
branch_pointers (tests u (from w)) p g h e =
    ap (λ (l : List Val). test (same_val (get_or l u undef) (get_or l w undef))) e
branch_pointers picks p g h e = refl

pub zeros : (n i : ℕ) → get_or {A = ℕ} (replicate n 0) i 0 ≡ 0
zeros zero i = refl
zeros (suc n) zero = refl
zeros (suc n) (suc i) = zeros n i

module _ {l : List ℕ} {d : Decoded} {s : ℕ} {h : Heap} {y : Way} (R : WayReady l d s h y) where
  abbrev op : ℕ
  op = op_number d.op

  slots_is : byte l 3 ≡ length (shape_of l).slots
  slots_is = nodes_is R ∙ ap (λ (x : Heap). length x.slots) (sym (shape_is_lem R))

  -- the image ps and the first c of cs, as the shape was opened
  module _ (ps cs : List ℕ) (c : ℕ) (pe : ps ≡ take 6 (drop 4 l)) (ce : c ≡ opened_count y.split op (byte l 3))
      (room : 13 ≤ length cs)
      (he : heap_of ps (take c cs) ≡ opened_heap y.split op (shape_of l)) where
    count_few : c ≤ byte l 3 + 1
    count_few = rw ce (count_most y.split op (byte l 3))

    six_pointers : length ps ≡ 6
    six_pointers = rw pe (pointers_six R)

    pub part_length : length (take c cs) ≡ c
    part_length = length-take-le c cs (omega (arith, count_few, nodes_few R))

    heap_is : heap_of ps (take c cs) ≡ opened_heap y.split op h
    heap_is = he ∙ ap (opened_heap y.split op) (shape_is_lem R)

    pub run_ready : (o m : List ℕ) → 13 ≤ length o → 13 ≤ length m → ((i : ℕ) → get_or m i 0 ≡ 0)
        → RunReady d (byte l 3) (bytes ps (take c cs)) o m
    run_ready o m places marks none =
        let k = length h.slots in
        let a = action (op_in d) in
        let u = d.u.0 in
        let w = d.w.0 in
        let lt = R.statement.known in
        let len = part_length in
        let most = count_few in
        let few = nodes_few R in
        let is = nodes_is R in
        let cis : c ≡ opened_count y.split op k = ce ∙ ap (opened_count y.split op) is in
        record {
          ready = record {
            known = lt;
            is_u = R.statement.is_u;
            is_w = R.statement.is_w;
            six = six_pointers;
            few = omega arith;
            is_closed = subst (λ (x : Heap). closed x ≡ true) (sym heap_is)
                (opened_closed y.split op h R.is_shape.closed (node_used R));
            room = rw (len, cis, is) (opened_end op u w lt y.split h R.is_node);
          };
          fresh = subst (λ (x : Heap). Room a x (byte l 3)) (sym heap_is)
              (rw is (opened_room op u w lt y.split h R.is_node));
          room = omega arith;
          marks = omega arith;
          clear = λ i q. none i;
        }

    -- a run on the opened heap is one on the way's
    same_run : carry_out (op_in d) (byte l 3) (heap_of ps (take c cs))
        ≡ carry_out (op_in d) (byte l 3) (way_in y (shape_of l)).heap
    same_run =
        let is = nodes_is R in
        ap (carry_out (op_in d) (byte l 3)) heap_is
        ∙ ap (λ n. carry_out (op_in d) n (opened_heap y.split op h)) is
        ∙ opened_run op d.u.0 d.w.0 R.statement.known y.split h R.is_node y refl
        ∙ ap (λ n. carry_out (op_in d) n (way_in y h).heap) (sym is)
        ∙ ap (λ (x : Heap). carry_out (op_in d) (byte l 3) (way_in y x).heap) (sym (shape_is_lem R))

    -- the image qs, ds that the run leaves
    module _ (qs ds o t : List ℕ) (len : length ds ≡ length (take c cs)) where
      pub way_faults : {f : Fault} → IsRun d (byte l 3) (bytes ps (take c cs)) (bytes qs ds) o t (Err f)
          → WayRan l d y (bytes qs (ds ++ drop c cs)) o t (Err f)
      way_faults {f} I g = any_heap f (heap_of qs ds) g (I.outcome ∙ same_run)
        where
          any_heap : (f : Fault) (a b : Heap) {e : Effect} → effect_of (fault_code f) a ≡ e
              → effect_of (fault_code f) b ≡ e
          any_heap fault.Null a b q = q
          any_heap fault.Undefined a b q = q
          any_heap fault.Leak a b q = q

      -- n cells were visited, and the branch is b
      pub way_done : (b n : ℕ) → ((ks : List ℕ) → b ≡ branch (op_in d) y.pick (heap_of ps ks))
          → IsRun d (byte l 3) (bytes ps (take c cs)) (bytes qs ds) o t (Ok n)
          → WayRan l d y (bytes qs (ds ++ drop c cs)) o t (Ok (record { branch = b; cells = c; visited = n }))
      way_done b n be I =
          let lc : length ds ≡ c = len ∙ part_length in
          let part : take c (ds ++ drop c cs) ≡ ds = take_at ds (drop c cs) c lc in
          record {
            outcome = rw part (I.outcome ∙ same_run);
            branch = be [] ∙ branch_pointers (kind (op_in d)) y.pick (heap_of ps []) (shape_of l) (ap (map val_of) pe);
            count = count_few;
            is_heap = rw part I.done.is_heap;
            visited = rw part I.done.visited;
            few = omega (arith, I.done.few);
            held = rw part I.done.held;
          }
