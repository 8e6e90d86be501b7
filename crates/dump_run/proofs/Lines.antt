-- What lines make of a run whose dump goes on.
use Rattle.std.proofs.Common.{◌≡◌, ℕ, ◌+◌, List, [], ◌∷◌, ◌++◌, length, Bool, true, false, Option, Some, None, Result, Ok, Err, refl, sym, ap, ◌∙◌, append_assoc, append-nil, arith}
use Rattle.std.specs.Prelude.{◌||◌, not, is_some, map as each}
use Rattle.std.specs.FinMap as map
use Rattle.bson_value.specs.declared.namespace.NsName.{NsName}
use Rattle.bson_value.specs.declared.value.Ts.{Ts}
use Rattle.archive_format.specs.Written.{Writing}
use Rattle.archive_content.specs.Pieces.{Piece, sum_of, pieces_text}
use Rattle.coll_state.specs.Rows.{Row}
use Rattle.copy_model.specs.Cursors.{Cursor}
use Rattle.schedule_model.specs.declared.line.Line.TheVariants as lines
use Rattle.history_model.specs.Entries.{OplogEntry, entry_bytes}
use Rattle.history_model.specs.Runs.{Run, Step, Documents, Entries, DumpState, Outcome, Done, Refusal, NotNow, NoCursor, on_line, in_dump, still, copied, looked, read_on, all_ended, marked, marked_by, renamed_since, rolled, rolled_or, tailed, sent_on, window, entries_from}
use Rattle.history_model.specs.Histories.{documents_in, entries_in}
use Rattle.dump_model.specs.Archives.{pieces_of, all_pieces, document_texts, oplog}
use Rattle.dump_copies.specs.Writing.{read_text}
use Rattle.dump_run.proofs.Texts.{text_join, text_of_step}

-- ---- the lines of a dump that goes on

module _ (r : Run) (d : DumpState) (there : r.dump ≡ Some d) (done : r.outcome ≡ Done) where
  in_going : (g : DumpState → Run → Result Run Refusal) → in_dump g r.dump r ≡ g d r
  in_going g = ap (λ (o : Option DumpState). in_dump g o r) there ∙ ap (λ (x : Outcome). still x g d r) done

  pub copy_on : (n : NsName) (k : ℕ) (c : Cursor) → map.get d.cursors n ≡ Some c → c.ended ≡ false → on_line (lines.Copy n k) r ≡ Ok (read_on n (looked k c (map.get r.stage.rows.tables n)) d r)
  copy_on n k c e f = in_going (copied n k) ∙ rw (e, f) refl

  pub copy_ended : (n : NsName) (k : ℕ) (c : Cursor) → map.get d.cursors n ≡ Some c → c.ended ≡ true → on_line (lines.Copy n k) r ≡ Err NoCursor
  copy_ended n k c e f = in_going (copied n k) ∙ rw (e, f) refl

  pub copy_none : (n : NsName) (k : ℕ) → map.get d.cursors n ≡ None → on_line (lines.Copy n k) r ≡ Err NoCursor
  copy_none n k e = in_going (copied n k) ∙ rw e refl

  pub mark_not : (is_some d.mark || not (all_ended d.cursors)) ≡ true → on_line lines.Mark r ≡ Err NotNow
  mark_not e = in_going marked ∙ ap (λ (b : Bool). elim b as (λ _. Result Run Refusal) [ true ↦ Err NotNow | false ↦ Ok (marked_by (renamed_since d.start r.stage.renamed) d r) ]) e

  pub mark_by : (is_some d.mark || not (all_ended d.cursors)) ≡ false → on_line lines.Mark r ≡ Ok (marked_by (renamed_since d.start r.stage.renamed) d r)
  mark_by e = in_going marked ∙ ap (λ (b : Bool). elim b as (λ _. Result Run Refusal) [ true ↦ Err NotNow | false ↦ Ok (marked_by (renamed_since d.start r.stage.renamed) d r) ]) e

  pub tail_unmarked : (n : ℕ) → d.mark ≡ None → on_line (lines.Tail n) r ≡ Err NotNow
  tail_unmarked n e = in_going (tailed n) ∙ rw e refl

  pub tail_closed : (n : ℕ) (b : Ts) → d.mark ≡ Some b → d.closed ≡ true → on_line (lines.Tail n) r ≡ Err NotNow
  tail_closed n b e f = in_going (tailed n) ∙ rw (e, f) refl

  pub tail_by : (n : ℕ) (b : Ts) → d.mark ≡ Some b → d.closed ≡ false → on_line (lines.Tail n) r ≡ Ok (rolled_or d.start r.stage.oplog (rolled d.start r) (sent_on n (window d.start b (entries_from r)) d r))
  tail_by n b e f = in_going (tailed n) ∙ rw (e, f) refl

-- ---- one step more

pub pieces_push : (ss : List Step) (s : Step) → all_pieces (ss ++ (s ∷ [])) ≡ all_pieces ss ++ pieces_of s
pieces_push [] s = append-nil (pieces_of s)
pieces_push (x ∷ ss) s = ap (λ (z : List Piece). pieces_of x ++ z) (pieces_push ss s) ∙ sym (append_assoc (pieces_of x) (all_pieces ss) (pieces_of s))

pub documents_push : (ss : List Step) (n : NsName) (rs : List Row) (b : Bool) → documents_in (ss ++ (Documents n rs b ∷ [])) ≡ documents_in ss + length rs
documents_push [] n rs b = omega arith
documents_push (Documents m qs c ∷ ss) n rs b = (let e = documents_push ss n rs b in omega arith)
documents_push (Entries es c ∷ ss) n rs b = documents_push ss n rs b

pub documents_same : (ss : List Step) (es : List OplogEntry) (b : Bool) → documents_in (ss ++ (Entries es b ∷ [])) ≡ documents_in ss
documents_same [] es b = refl
documents_same (Documents m qs c ∷ ss) es b = ap (λ (i : ℕ). length qs + i) (documents_same ss es b)
documents_same (Entries fs c ∷ ss) es b = documents_same ss es b

pub entries_push : (ss : List Step) (es : List OplogEntry) (b : Bool) → entries_in (ss ++ (Entries es b ∷ [])) ≡ entries_in ss + length es
entries_push [] es b = omega arith
entries_push (Documents m qs c ∷ ss) es b = entries_push ss es b
entries_push (Entries fs c ∷ ss) es b = (let e = entries_push ss es b in omega arith)

pub entries_same : (ss : List Step) (n : NsName) (rs : List Row) (b : Bool) → entries_in (ss ++ (Documents n rs b ∷ [])) ≡ entries_in ss
entries_same [] n rs b = refl
entries_same (Documents m qs c ∷ ss) n rs b = entries_same ss n rs b
entries_same (Entries fs c ∷ ss) n rs b = ap (λ (i : ℕ). length fs + i) (entries_same ss n rs b)

abbrev steps_text : List Step → List ℕ
steps_text ss = pieces_text [] (all_pieces ss)

pub text_push : (ss : List Step) (s : Step) → steps_text (ss ++ (s ∷ [])) ≡ steps_text ss ++ pieces_text (all_pieces ss) (pieces_of s)
text_push ss s = ap (pieces_text []) (pieces_push ss s) ∙ text_join [] (all_pieces ss) (pieces_of s)

-- the text that a step writes, by the writer of its namespace
pub text_read : (ss : List Step) (n : NsName) (w : Writing) (rs : List Row) (b : Bool) → w ≡ record { ns = n; sum = sum_of n (all_pieces ss) } → steps_text (ss ++ (Documents n rs b ∷ [])) ≡ steps_text ss ++ read_text w (document_texts rs) b
text_read ss n w rs b e =
    text_push ss (Documents n rs b)
    ∙ (ap (λ (z : List ℕ). steps_text ss ++ z) (text_of_step n (all_pieces ss) (document_texts rs) b) ∙ ap (λ (x : Writing). steps_text ss ++ read_text x (document_texts rs) b) (sym e))

pub text_sent : (ss : List Step) (w : Writing) (es : List OplogEntry) (b : Bool) → w ≡ record { ns = oplog; sum = sum_of oplog (all_pieces ss) } → steps_text (ss ++ (Entries es b ∷ [])) ≡ steps_text ss ++ read_text w (each entry_bytes es) b
text_sent ss w es b e =
    text_push ss (Entries es b)
    ∙ (ap (λ (z : List ℕ). steps_text ss ++ z) (text_of_step oplog (all_pieces ss) (each entry_bytes es) b) ∙ ap (λ (x : Writing). steps_text ss ++ read_text x (each entry_bytes es) b) (sym e))
