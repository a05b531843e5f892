-- What the structs that the code passes by value stand for. Assumes nothing.
use Rattle.std.specs.Prelude.{ℕ, zero, suc, ◌≤◌, ◌<◌, Bool, ◌&&◌, ◌||◌, List, [], ◌∷◌, ◌++◌, map, ◌≡◌, eqb, leb, length, take, Result, Ok, Err}
use Rattle.model.specs.Base.{most_nodes, pointer_count}
use Rattle.model.specs.Edges.{Edge, Guard, is_more, is_one}
use Rattle.model.specs.Machine.{Op, Stmt}
use Rattle.model.specs.Records.{GuardCode, Row, byte, failed_node, first_failed, guard_code, loc_record, op_count, op_of, update_code}
use Rattle.model.specs.Translate.{Tables}
use Rattle.model.specs.Codes.{op_at, op_number, reason_in, reason_node, reason_number}
use Rattle.model.specs.declared.Counts.{Counts}
use Rattle.model.specs.declared.Decoded.{Decoded}
use Rattle.model.specs.declared.EdgeMade.{EdgeMade}
use Rattle.model.specs.declared.Guard as declared
use Rattle.model.specs.declared.Guards.{Guards}
use Rattle.model.specs.declared.codes.Reason.{Reason}
use Rattle.model.specs.declared.tables.Tables.{Tables as LentTables}

-- ---- a statement's record, decoded

-- the struct that the record r is decoded into
abbrev pub decoded : List ℕ → Decoded
decoded r = record {
  op = op_at (byte r 1);
  code = byte r 1;
  u = record { 0 = byte r 2 };
  w = record { 0 = byte r 3 };
  first = record { 0 = byte r 4 };
  second = record { 0 = byte r 5 };
}

abbrev pub op_in : Decoded → Op
op_in d = op_of (op_number d.op) d.u.0 d.w.0

-- the fields of an accepted statement
pub record DecodedOk (d : Decoded) : Type 0 where
  pub known : op_number d.op < op_count
  pub is_u : d.u.0 < pointer_count
  pub is_w : d.w.0 < pointer_count

-- the ops, by number, that change no heap: stop, the tests, choose and skip
abbrev pub keeps_at : ℕ → Bool
keeps_at op = eqb op 0 || (leb 8 op && leb op 11)

-- the ops, by number, that take the next of u's cell away: u.next := null, u.next := w, free u, u.next := w.next
abbrev pub cuts_at : ℕ → Bool
cuts_at op = eqb op 4 || eqb op 5 || eqb op 7 || eqb op 12

abbrev pub stmt_in : Decoded → Stmt
stmt_in d = record { op = op_in d; first_target = d.first.0; second_target = d.second.0 }

-- ---- the first check that fails

-- in numbers: its own, 0 for none, and that of the node that is told with it, 0 for none
pub record Failed : Type 0 where
  pub number : ℕ
  pub node : ℕ

abbrev pub failing : ℕ → ℕ → Failed
failing n v = record { number = n; node = v }

-- a failure tells the first of the checks that does not pass, and its node
pub record Tells (cs : List Row) (f : Failed) : Type 0 where
  pub number : f.number ≡ first_failed cs
  pub node : f.node ≡ failed_node cs

-- what the code answers
abbrev pub failed_in : {A : Type 0} → Result A Reason → Failed
failed_in (Ok _) = failing 0 0
failed_in (Err r) = failing (reason_number r) (reason_node r)

-- ---- the counts of the two tables

-- the two tables as a reader has them, with their counts in use
abbrev pub tables_in : List ℕ → List ℕ → Counts → Tables
tables_in ls es c = record { loc_bytes = ls; edge_bytes = es; loc_count = c.locations; edge_count = c.edges }

-- the same, lent together
abbrev pub tables_lent : LentTables → Tables
tables_lent t = tables_in t.locations.now t.edges.now t.counts

-- ---- guards

abbrev pub guard_by : ℕ → ℕ → List Guard
guard_by zero n = []
guard_by (suc zero) n = record { node = n; test = is_one } ∷ []
guard_by (suc (suc t)) n = record { node = n; test = is_more } ∷ []

abbrev pub guards_in : Guards → List Guard
guards_in g = guard_by g.first.test g.first.node.0 ++ guard_by g.second.test g.second.node.0

-- the numbers of one guard
abbrev pub code_in : declared.Guard → GuardCode
code_in g = record { test = g.test; node = g.node.0 }

-- the struct has the numbers of the guards gs
abbrev pub Coded : List Guard → Guards → Type 0
Coded gs g = (guard_code gs 0 ≡ code_in g.first) × (guard_code gs 1 ≡ code_in g.second)

-- guards that are written as they are read: no node where there is no guard, and no second without a first
abbrev pub Writes : Guards → Type 0
Writes g = Coded (guards_in g) g

-- ---- an edge

-- the edge E as bytes: its target's record t, its updates us, and what else was made
pub record IsEdge (E : Edge) (t us : List ℕ) (r : EdgeMade) : Type 0 where
  pub branch : r.branch ≡ E.branch_no
  pub guards : Coded E.guards r.guards
  pub target : t ≡ loc_record E.to
  pub number : r.nodes ≡ length E.updates
  pub few : r.nodes ≤ most_nodes
  pub updates : take r.nodes us ≡ map update_code E.updates
