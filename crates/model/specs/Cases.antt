-- 01, "Shelf cases": the cases marked P, P11 as 02 has it, and cases R of relinks and D of drops, made for 02, as one
-- table of inputs and outputs. Assumes nothing.
use Rattle.std.specs.Prelude.{ℕ, zero, suc, ◌*◌, ◌/◌, ◌%◌, ◌^◌, Bool, true, false, ◌&&◌, List, [], ◌∷◌, ◌++◌, map, eqb}
use Rattle.model.specs.Base.{same_list, numbers, joined}
use Rattle.model.specs.Records.{Verdict, is_accepted, is_refused, record_at}
use Rattle.model.specs.Translate.{Tables, translate}

-- the n bytes of a number, high byte first
abbrev bytes_of : ℕ → ℕ → List ℕ
bytes_of zero x = []
bytes_of (suc n) x = x / 256 ^ n % 256 ∷ bytes_of n x

-- a record as 01 prints it: the digits x and z zeros
abbrev line : ℕ → ℕ → List ℕ
line x z = bytes_of 32 (x * 16 ^ z)

-- the records in use, each L and then each E: what the lines of the program `translate` show
abbrev listed_records : Tables → List (List ℕ)
listed_records t = map (record_at t.loc_bytes) (numbers 0 t.loc_count)
    ++ map (record_at t.edge_bytes) (numbers 0 t.edge_count)

pub record Case : Type 0 where
  pub input : List (List ℕ)
  pub output : List (List ℕ)

abbrev is_listed : Verdict → Bool
is_listed is_accepted = true
is_listed (is_refused x) = false

-- accepted with tables of 32 places, which then hold the output
abbrev pub holds_for : Case → Bool
holds_for c =
    let o = translate (joined c.input) 1024 1024 in
    is_listed o.verdict && same_list (same_list eqb) (listed_records o.tables) c.output

abbrev pub cases : List Case
cases =
    -- P1: statement 0 frees pointer 0; pointer 0 at node 0
    record {
      input = line 0x5307000001 54 ∷ line 0x53 62 ∷ line 0x4800000100fefefefefefe 42 ∷ [];
      output =
          line 0x4c00000100fefefefefefe 42
          ∷ line 0x4c010000fffefefefefe 44
          ∷ line 0x4c000300 56
          ∷ line 0x4500000001000100 48
          ∷ line 0x4500000002000200 48
          ∷ [];
    }
    -- P2: pointers 0 and 1 at node 0; p0 := p0.next
    ∷ record {
      input = line 0x5303000001 54 ∷ line 0x53 62 ∷ line 0x480000010000fefefefefe 42 ∷ [];
      output =
          line 0x4c0000010000fefefefefe 42
          ∷ line 0x4c010001fe00fefefefefe 42
          ∷ line 0x4c0100020001fefefefefe 42
          ∷ line 0x45000000010001000110 44
          ∷ line 0x450000000200020001000020 40
          ∷ [];
    }
    -- P3: pointer 0 on a ring of one node; p0 := p0.next
    ∷ record {
      input = line 0x5303000001 54 ∷ line 0x53 62 ∷ line 0x4800000100fefefefefe 44 ∷ [];
      output =
          line 0x4c00000100fefefefefe 44
          ∷ line 0x4c01000100fefefefefe 44
          ∷ line 0x45000000010001000110 44
          ∷ line 0x45000000010002000110 44
          ∷ [];
    }
    -- P4: only pointer 0 at a list; p0 := p0.next: both edges leak
    ∷ record {
      input = line 0x5303000001 54 ∷ line 0x53 62 ∷ line 0x4800000100fefefefefefe 42 ∷ [];
      output =
          line 0x4c00000100fefefefefefe 42
          ∷ line 0x4c000300 56
          ∷ line 0x4500000001000100 48
          ∷ line 0x4500000001000200 48
          ∷ [];
    }
    -- P5: p0 at 0, successor of 0 is 1, of 1 is 1; p0.next := null: both leak
    ∷ record {
      input = line 0x5304000001 54 ∷ line 0x53 62 ∷ line 0x4800000200fefefefefe0101 40 ∷ [];
      output =
          line 0x4c00000200fefefefefe0101 40
          ∷ line 0x4c000300 56
          ∷ line 0x4500000001000100 48
          ∷ line 0x4500000001000200 48
          ∷ [];
    }
    -- P6: p0 at 0, p1 at 2, 0 and 2 lead to 1; p0.next := null
    ∷ record {
      input = line 0x5304000001 54 ∷ line 0x53 62 ∷ line 0x480000030002fefefefe01fe01 38 ∷ [];
      output =
          line 0x4c0000030002fefefefe01fe01 38
          ∷ line 0x4c0100020001fefefefefefe 40
          ∷ line 0x4c000300 56
          ∷ line 0x450000000100010001100610 40
          ∷ line 0x4500000002000200 48
          ∷ [];
    }
    -- P7: p0 := new, all null
    ∷ record {
      input = line 0x5306000001 54 ∷ line 0x53 62 ∷ line 0x48000000fefefefefefe 44 ∷ [];
      output =
          line 0x4c000000fefefefefefe 44
          ∷ line 0x4c01000100fefefefefeff 42
          ∷ line 0x45000000010000000020 44
          ∷ [];
    }
    -- P8: p0 at 0, then 1, p1 at 1; p1 := null
    ∷ record {
      input = line 0x5301010001 54 ∷ line 0x53 62 ∷ line 0x480000020001fefefefe01fe 40 ∷ [];
      output =
          line 0x4c0000020001fefefefe01fe 40
          ∷ line 0x4c01000100fefefefefefe 42
          ∷ line 0x45000000010000000310 44
          ∷ [];
    }
    -- P9: free of null: same shape; and the same beside a list, whose counter is carried
    ∷ record {
      input = line 0x5307000001 54 ∷ line 0x53 62 ∷ line 0x48000000fefefefefefe 44 ∷ [];
      output =
          line 0x4c000000fefefefefefe 44
          ∷ line 0x4c010000fefefefefefe 44
          ∷ line 0x4500000001000000 48
          ∷ [];
    }
    ∷ record {
      input = line 0x5307000001 54 ∷ line 0x53 62 ∷ line 0x48000001fe00fefefefefe 42 ∷ [];
      output =
          line 0x4c000001fe00fefefefefe 42
          ∷ line 0x4c010001fe00fefefefefe 42
          ∷ line 0x45000000010000000110 44
          ∷ [];
    }
    -- P10: p0.next := null, p0 undefined: fault 2
    ∷ record {
      input = line 0x5304000001 54 ∷ line 0x53 62 ∷ line 0x48000000fffefefefefe 44 ∷ [];
      output =
          line 0x4c000000fffefefefefe 44
          ∷ line 0x4c000200 56
          ∷ line 0x4500000001000000 48
          ∷ [];
    }
    -- P11: test p0 = p1, both undefined: fault 2, by 02, job 2
    ∷ record {
      input = line 0x5309000101 54 ∷ line 0x53 62 ∷ line 0x48000000fffffefefefe 44 ∷ [];
      output =
          line 0x4c000000fffffefefefe 44
          ∷ line 0x4c000200 56
          ∷ line 0x4500000001000000 48
          ∷ [];
    }
    -- ---- relinks, by 02, job 3
    -- R1: p0 at 0, p1 at 2, 0 and 2 lead to 1; p0.next := p1.next: where c0 ≥ 2 it leaks, though both successor nodes
    -- are equal
    ∷ record {
      input = line 0x530c000101 54 ∷ line 0x53 62 ∷ line 0x480000030002fefefefe01fe01 38 ∷ [];
      output =
          line 0x4c0000030002fefefefe01fe01 38
          ∷ line 0x4c0100030002fefefefe01fe01 38
          ∷ line 0x4c000300 56
          ∷ line 0x4512000001000100011002100410 36
          ∷ line 0x4514000001000100011006000020 36
          ∷ line 0x4500000002000200 48
          ∷ [];
    }
    -- R2: p0 at 0, p1 at 1, 0 and 1 on one ring; p0.next := p1.next
    ∷ record {
      input = line 0x530c000101 54 ∷ line 0x53 62 ∷ line 0x480000020001fefefefe0100 40 ∷ [];
      output =
          line 0x4c0000020001fefefefe0100 40
          ∷ line 0x4c0100020001fefefefe0000 40
          ∷ line 0x4c0100030002fefefefe010001 38
          ∷ line 0x4c000300 56
          ∷ line 0x450a00000100010001100210 40
          ∷ line 0x450c000002000100011002000020 36
          ∷ line 0x4500000003000200 48
          ∷ [];
    }
    -- R3: p0 at 0, p1 at 1, whose successor is undefined; p0.next := p1.next copies that
    ∷ record {
      input = line 0x530c000101 54 ∷ line 0x53 62 ∷ line 0x480000020001fefefefefeff 40 ∷ [];
      output =
          line 0x4c0000020001fefefefefeff 40
          ∷ line 0x4c0100020001fefefefeffff 40
          ∷ line 0x4c0100030002fefefefe01ff01 38
          ∷ line 0x4c000300 56
          ∷ line 0x450a00000100010001100210 40
          ∷ line 0x450c000002000100011002000020 36
          ∷ line 0x4500000003000200 48
          ∷ [];
    }
    -- R4: p0 at 0, then 1, p1 at 1; p0.next := p1.next: where c0 = 1, the first cell of node 1 is unlinked
    ∷ record {
      input = line 0x530c000101 54 ∷ line 0x53 62 ∷ line 0x480000020001fefefefe01fe 40 ∷ [];
      output =
          line 0x4c0000020001fefefefe01fe 40
          ∷ line 0x4c0100020001fefefefefefe 40
          ∷ line 0x4c0100030002fefefefe01fe01 38
          ∷ line 0x4c000300 56
          ∷ line 0x450a00000100010001100210 40
          ∷ line 0x450c000002000100011002000020 36
          ∷ line 0x4500000003000200 48
          ∷ [];
    }
    -- R5: p0 at 0, p1 at 2, p2 at 3, 0 and 2 lead to 1; p0.next := p2.next: node 1 is no longer core and merges
    ∷ record {
      input = line 0x530c000201 54 ∷ line 0x53 62 ∷ line 0x48000004000203fefefe01fe01fe 36 ∷ [];
      output =
          line 0x4c000004000203fefefe01fe01fe 36
          ∷ line 0x4c010003000102fefefefefefe 38
          ∷ line 0x4c010004000203fefefe01fefe01 36
          ∷ line 0x4c000300 56
          ∷ line 0x451a000001000100011006100810 36
          ∷ line 0x451c0000020001000110080006100020 32
          ∷ line 0x4500000003000200 48
          ∷ [];
    }
    -- R6: p0 and p1 at node 0; p0.next := p1.next: one edge without a guard, same shape
    ∷ record {
      input = line 0x530c000101 54 ∷ line 0x53 62 ∷ line 0x480000010000fefefefefe 42 ∷ [];
      output =
          line 0x4c0000010000fefefefefe 42
          ∷ line 0x4c0100010000fefefefefe 42
          ∷ line 0x45000000010000000110 44
          ∷ [];
    }
    -- R7: p0 undefined, p1 null; p0.next := p1.next: fault 1, since w is looked at first
    ∷ record {
      input = line 0x530c000101 54 ∷ line 0x53 62 ∷ line 0x48000000fffefefefefe 44 ∷ [];
      output =
          line 0x4c000000fffefefefefe 44
          ∷ line 0x4c000100 56
          ∷ line 0x4500000001000000 48
          ∷ [];
    }
    -- ---- drops, by 02, job 6
    -- D1: p0 at a list; drop p0: it goes, and its counter is in no update
    ∷ record {
      input = line 0x530d000001 54 ∷ line 0x53 62 ∷ line 0x4800000100fefefefefefe 42 ∷ [];
      output =
          line 0x4c00000100fefefefefefe 42
          ∷ line 0x4c010000fefefefefefe 44
          ∷ line 0x4500000001000000 48
          ∷ [];
    }
    -- D2: p0 at 0, p1 at 2, 0 and 2 lead to 1; drop p0: 0 goes, and 1, of which one holder is left, merges into 2
    ∷ record {
      input = line 0x530d000001 54 ∷ line 0x53 62 ∷ line 0x480000030002fefefefe01fe01 38 ∷ [];
      output =
          line 0x4c0000030002fefefefe01fe01 38
          ∷ line 0x4c010001fe00fefefefefe 42
          ∷ line 0x45000000010000000610 44
          ∷ [];
    }
    -- D3: p0 at 0, which leads to the ring of 1; drop p0: both go
    ∷ record {
      input = line 0x530d000001 54 ∷ line 0x53 62 ∷ line 0x4800000200fefefefefe0101 40 ∷ [];
      output =
          line 0x4c00000200fefefefefe0101 40
          ∷ line 0x4c010000fefefefefefe 44
          ∷ line 0x4500000001000000 48
          ∷ [];
    }
    -- D4: p0 at 0, then 1, p1 at 1; drop p1: nothing goes, and 1 merges into 0
    ∷ record {
      input = line 0x530d010001 54 ∷ line 0x53 62 ∷ line 0x480000020001fefefefe01fe 40 ∷ [];
      output =
          line 0x4c0000020001fefefefe01fe 40
          ∷ line 0x4c01000100fefefefefefe 42
          ∷ line 0x45000000010000000310 44
          ∷ [];
    }
    -- D5: the same heap; drop p0: 0 goes, and p1 keeps 1
    ∷ record {
      input = line 0x530d000001 54 ∷ line 0x53 62 ∷ line 0x480000020001fefefefe01fe 40 ∷ [];
      output =
          line 0x4c0000020001fefefefe01fe 40
          ∷ line 0x4c010001fe00fefefefefe 42
          ∷ line 0x45000000010000000210 44
          ∷ [];
    }
    -- D6: p0 undefined, p1 at a node; drop p0 only sets null
    ∷ record {
      input = line 0x530d000001 54 ∷ line 0x53 62 ∷ line 0x48000001ff00fefefefefe 42 ∷ [];
      output =
          line 0x4c000001ff00fefefefefe 42
          ∷ line 0x4c010001fe00fefefefefe 42
          ∷ line 0x45000000010000000110 44
          ∷ [];
    }
    ∷ []
