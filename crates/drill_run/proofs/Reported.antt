-- What a drill counts and compares.
use Rattle.std.proofs.Common.{◌≡◌, ℕ, ◌+◌, ◌≤◌, List, length, sym, ap, subst, ◌∙◌, arith, None, IfOk, string_bytes}
use Rattle.std.specs.Prelude.{Result, String, codes}
use Rattle.std.specs.declared.alloc.Global.{Global}
use Rattle.std.specs.FinMap as map
use Rattle.coll_state.specs.Rows.{Rows, state_of}
use Rattle.document_lines.specs.declared.form.ListForm.TheVariants.{Hex}
use Rattle.state_listing.specs.Listing.{listing}
use Rattle.index_build.proofs.Walks.{names_of_state}
use Rattle.state_model.specs.States.{State}
use Rattle.history_model.specs.Runs.{Schedule, run, entries_from}
use Rattle.history_model.specs.Histories.{Moments, moments, before, reads, documents_in}
use Rattle.dump_model.specs.Archives.{written}
use Rattle.dump_run.specs.declared.fault.DumpReport.{DumpReport}
use Rattle.dump_run.specs.Dumps.{counted}
use Rattle.schedule_text.specs.declared.schedule.Schedule.{Schedule as Text}
use Rattle.schedule_report.specs.Schedules.{schedule_in}
use Rattle.schedule_dump.specs.Outcomes.{IsReport}
use Rattle.drill_schedule.specs.Drills.{drill}
use Rattle.drill_run.specs.declared.line.Counts.{Counts}
use Rattle.drill_run.specs.Drills.{drilled, window_of, counts_of, counts_line, drill_line}
use Rattle.drill_run.specs.Restores.{Restores, IsListed, Heals}

-- its cap

pub least : (n : ℕ) (s : Text) → s ≡ drill n → 1 ≤ s.cap
unfolding drill
least n s e = subst (λ (x : Text). 1 ≤ x.cap) (sym e) (omega arith)

pub most : (n : ℕ) (s : Text) → s ≡ drill n → s.cap ≤ 1000000
unfolding drill
most n s e = subst (λ (x : Text). x.cap ≤ 1000000) (sym e) (omega arith)

module _ (n : ℕ) (s : Text) (e : s ≡ drill n) where
  is_drilled : schedule_in s ≡ drilled n
  is_drilled = ap schedule_in e

  -- the bytes are the archive of its dump
  archive_is : (bytes archive : List ℕ) → bytes ≡ archive → archive ≡ written (schedule_in s) → bytes ≡ written (drilled n)
  archive_is bytes archive f g = f ∙ (g ∙ ap written is_drilled)

  pub restorable : (bytes archive : List ℕ) → bytes ≡ archive → archive ≡ written (schedule_in s) → Heals n → Restores bytes
  restorable bytes archive f g h = subst Restores (sym (archive_is bytes archive f g)) h.restored

  pub same_listings : (bytes archive restored listed : List ℕ) (rows : Rows) → bytes ≡ archive → archive ≡ written (schedule_in s) → Heals n → IsListed bytes restored →
      listed ≡ listing Hex (state_of rows) → state_of rows ≡ before (schedule_in s) None → restored ≡ listed
  same_listings bytes archive restored listed rows f g h l m k =
      h.listed restored (subst (λ (x : List ℕ). IsListed x restored) (archive_is bytes archive f g) l) ∙ (sym (m ∙ (ap (listing Hex) k ∙ ap (λ (x : Schedule). listing Hex (before x None)) is_drilled)))

  module _ (c : Counts) (report : DumpReport) (rows : Rows) (archive : List ℕ) (told : IsReport report (schedule_in s)) where
    documents_are : c.documents ≡ report.documents → c.documents ≡ counted (documents_in (reads (drilled n)))
    documents_are d = d ∙ (told.documents ∙ ap (λ (x : Schedule). counted (documents_in (reads x))) is_drilled)

    entries_are : c.entries ≡ report.entries → c.entries ≡ (counts_of n).entries
    entries_are d =
        d ∙ (told.entries ∙ (ap (λ (m : Moments). counted (length (window_of m (entries_from (run (schedule_in s)))))) (sym told.moments_are) ∙ ap (λ (x : Text). (counted_entries x)) e))
      where
        counted_entries : Text → ℕ
        counted_entries x = counted (length (window_of (moments (schedule_in x)) (entries_from (run (schedule_in x)))))

    names_are : c.namespaces ≡ length (map.keys rows.tables) → state_of rows ≡ before (schedule_in s) None → c.namespaces ≡ (counts_of n).namespaces
    names_are d k = d ∙ (ap length (sym (names_of_state rows)) ∙ (ap (λ (x : State). length (map.keys x)) k ∙ ap (λ (x : Schedule). length (map.keys (before x None))) is_drilled))

    pub counts_are : c.lines ≡ length s.lines + 1 → c.documents ≡ report.documents → c.entries ≡ report.entries → c.namespaces ≡ length (map.keys rows.tables) → c.bytes ≡ length archive →
        archive ≡ written (schedule_in s) → state_of rows ≡ before (schedule_in s) None → c ≡ counts_of n
    counts_are lines documents entries names bytes g k =
        let l = lines ∙ ap (λ (x : Text). length x.lines + 1) e in
        let d = documents_are documents in
        let t = entries_are entries in
        let m = names_are names k in
        let b = bytes ∙ ap length (g ∙ ap written is_drilled) in
        λ i. record { lines = l i; documents = d i; entries = t i; namespaces = m i; bytes = b i }

pub told_line : {E : Type 0} (n : ℕ) (c : Counts) (word : List ℕ) (r : Result (String Global) E) → c ≡ counts_of n → word ≡ codes "yes" → IfOk r (λ s. string_bytes s ≡ counts_line c word) → IfOk r (λ s. string_bytes s ≡ drill_line n)
told_line {E} n c word r e f h =
    let P : Counts → List ℕ → Type 0 = λ x w. IfOk r (λ s. string_bytes s ≡ counts_line x w) in
    subst (λ (w : List ℕ). P (counts_of n) w) f (subst (λ (x : Counts). P x word) e h)
