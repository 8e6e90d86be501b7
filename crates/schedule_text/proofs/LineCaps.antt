-- What a line does to the cap.
use Rattle.std.proofs.Common.{◌≡◌, ℕ, ◌≤◌, Bool, true, List, [], refl, sym, ap, arith, inl, inr, subst}
use Rattle.std.specs.Prelude.{◌⊎◌, Option, Some, None, Result, Ok, Err, OnOk, cond}
use Rattle.json_text.specs.Grammar.{ReadIsJson}
use Rattle.schedule_model.specs.declared.command.DocumentCommand.{DocumentCommand}
use Rattle.schedule_text.specs.declared.verb.Context.TheVariants as contexts
use Rattle.schedule_text.specs.declared.statement.Statement.{Statement}
use Rattle.schedule_text.specs.declared.statement.Statement.TheVariants as statements
use Rattle.schedule_text.specs.declared.fault.LineFault.{LineFault}
use Rattle.schedule_text.specs.declared.reader.LineReader.{LineReader}
use Rattle.schedule_text.specs.declared.schedule.NumberedLine.{NumberedLine}
use Rattle.schedule_text.specs.Words.{is_at_start}
use Rattle.schedule_text.specs.Reading.{Reader, context_in, context_of, said, with_document, behind, says, with_lines, added, KeepsCap, Gives}
use Rattle.schedule_text.specs.Grammar.{IsCap}
use Rattle.schedule_text.proofs.Said.{Says, stands_in, IsSaid, is_said}
use Rattle.schedule_text.proofs.Steps.{Transaction, says_is}

-- the cap of one reader is that of the other, or a new one where nothing was read before
record Capped (r q : Reader) : Type 0 where
  pub begun : r.begun ≡ true → q.begun ≡ true
  pub cap : r.begun ≡ true → q.cap ≡ r.cap
  pub bytes : r.begun ≡ true → q.bytes ≡ r.bytes
  pub least : 1 ≤ r.cap → 1 ≤ q.cap
  pub most : r.cap ≤ 1000000 → q.cap ≤ 1000000

-- ---- what a line says

document_cap : (r : Reader) (n : ℕ) (d : DocumentCommand) (t : Transaction) → ((with_document r n d t).cap ≡ r.cap) × ((with_document r n d t).bytes ≡ r.bytes)
document_cap r n d None = (refl, refl)
document_cap r n d (Some cs) = (refl, refl)

document_begun : (r : Reader) (n : ℕ) (d : DocumentCommand) (t : Transaction) → (with_document r n d t).begun ≡ r.begun
document_begun r n d None = refl
document_begun r n d (Some cs) = refl

-- the cap is said, or stays as it is
abbrev IsCapSaid : Statement → Type 0
IsCapSaid s = (entries : ℕ) × (most : Option ℕ) × (s ≡ statements.Cap entries most)

behind_cap : (r : Reader) (n : ℕ) (s : Statement) → IsCapSaid s ⊎ (((behind r n s).cap ≡ r.cap) × ((behind r n s).bytes ≡ r.bytes))
behind_cap r n (statements.Cap entries most) = inl (entries, most, refl)
behind_cap r n (statements.Document d) = inr (document_cap r n d r.transaction)
behind_cap r n (statements.Line x) = inr (refl, refl)
behind_cap r n statements.Begin = inr (refl, refl)
behind_cap r n statements.Commit = inr (refl, refl)
behind_cap r n statements.Abort = inr (refl, refl)

behind_begun : (r : Reader) (n : ℕ) (s : Statement) → (behind r n s).begun ≡ r.begun
behind_begun r n (statements.Cap entries most) = refl
behind_begun r n (statements.Document d) = document_begun r n d r.transaction
behind_begun r n (statements.Line x) = refl
behind_begun r n statements.Begin = refl
behind_begun r n statements.Commit = refl
behind_begun r n statements.Abort = refl

in_range : (line : List ℕ) (entries : ℕ) (most : Option ℕ) → IsCap line entries most → (1 ≤ entries) × (entries ≤ 1000000)
in_range line entries None (a, i, l) = (i.1, i.2)
in_range line entries (Some most) (a, b, i, j, l) = (i.1, i.2)

not_first : (t : Transaction) → is_at_start (context_in t) ≡ true → ⊥
not_first None e = cc
not_first (Some cs) e = cc

-- a cap is said in the first line alone
unless_begun : (r : Reader) (entries : ℕ) (most : Option ℕ) → stands_in (statements.Cap entries most) (context_of r) ≡ true → r.begun ≡ true → ⊥
unless_begun r entries most w e = not_first r.transaction (subst (λ (b : Bool). is_at_start (cond b (context_in r.transaction) contexts.Start) ≡ true) e w)

cap_said : (r : Reader) (n : ℕ) (line : List ℕ) (s : Statement) → IsSaid (context_of r) line s → IsCapSaid s → Capped r (behind (record r { begun = true }) n s)
cap_said r n line s k p =
    let none = unless_begun r p.0 p.1 (subst (λ (y : Statement). stands_in y (context_of r) ≡ true) p.2 k.stands) in
    let range = in_range line p.0 p.1 (subst (λ (y : Statement). Says line y) p.2 k.says) in
    let cap : (behind (record r { begun = true }) n s).cap ≡ p.0 = ap (λ (y : Statement). (behind (record r { begun = true }) n y).cap) p.2 in
    record {
      begun = λ e. absurd (none e);
      cap = λ e. absurd (none e);
      bytes = λ e. absurd (none e);
      least = λ h. omega (arith, cap, range.0);
      most = λ h. omega (arith, cap, range.1);
    }

line_said : (r : Reader) (n : ℕ) (line : List ℕ) (s : Statement) → IsSaid (context_of r) line s → Capped r (behind (record r { begun = true }) n s)
line_said r n line s k = by (behind_cap (record r { begun = true }) n s)
  where
    by : IsCapSaid s ⊎ (((behind (record r { begun = true }) n s).cap ≡ r.cap) × ((behind (record r { begun = true }) n s).bytes ≡ r.bytes)) → Capped r (behind (record r { begun = true }) n s)
    by (inl p) = cap_said r n line s k p
    by (inr p) = record {
      begun = λ e. behind_begun (record r { begun = true }) n s;
      cap = λ e. p.0;
      bytes = λ e. p.1;
      least = λ h. omega (arith, p.0, h);
      most = λ h. omega (arith, p.0, h);
    }

said_caps : ReadIsJson → (r q : Reader) (n : ℕ) (line : List ℕ) → says r n (said (context_of r) line) ≡ Ok q → Capped r q
said_caps spells r q n line e =
    let k = says_is r q n (said (context_of r) line) e in
    subst (λ (x : Reader). Capped r x) (sym k.2) (line_said r n line k.0 (is_said spells (context_of r) line k.0 k.1))

-- what is read of a line that isn't passed over
pub keeps_cap : ReadIsJson → (r q : LineReader) (n : ℕ) (line : List ℕ) (result : Result (Option NumberedLine) LineFault) → Gives (λ out. with_lines q (added out)) result (says (with_lines r []) n (said (context_of (with_lines r [])) line)) → OnOk result (KeepsCap r q)
keeps_cap spells r q n line (Ok out) e =
    let k = said_caps spells (with_lines r []) (with_lines q (added out)) n line e in
    record { begun = k.begun; cap = k.cap; bytes = k.bytes; least = k.least; most = k.most }
keeps_cap spells r q n line (Err f) e = tt
