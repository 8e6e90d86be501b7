-- A dump stands where the run does after a tail step.
use Rattle.std.proofs.Common.{◌≡◌, ℕ, zero, suc, ◌+◌, ◌-◌, ◌<◌, ◌≤◌, ◌^◌, List, [], ◌∷◌, ◌++◌, length, take, drop, Bool, true, false, Option, Some, None, Ok, Err, refl, sym, ap, ◌∙◌, subst, arith}
use Rattle.std.specs.Prelude.{option_map, min, nat_le, slice_get, map as each}
use Rattle.std.specs.FinMap as map
use Rattle.std.specs.Io.KnownBytes.{Appends}
use Rattle.std.proofs.lemmas.Bool.{leb-false}
use Rattle.std.proofs.lemmas.List.{length-map}
use Rattle.bson_value.specs.declared.namespace.NsName.{NsName}
use Rattle.bson_value.specs.declared.value.Ts.{Ts}
use Rattle.tool_io.specs.Causes.{AppendsFront}
use Rattle.tool_io.specs.Ends.{End}
use Rattle.tool_io.specs.declared.ends.Fault.{Fault}
use Rattle.tool_io.specs.declared.ends.Fault.TheVariants as ends
use Rattle.archive_format.specs.Written.{Writing, with_documents}
use Rattle.archive_content.specs.Pieces.{sum_of}
use Rattle.state_model.specs.Keys.{same_ns}
use Rattle.state_model.proofs.Keys.{ns_is}
use Rattle.capped_oplog.specs.Ring.{Entry}
use Rattle.copy_model.specs.Cursors.{Cursor}
use Rattle.schedule_model.specs.declared.line.Line.TheVariants as lines
use Rattle.history_model.specs.Entries.{OplogEntry, entry_bytes}
use Rattle.history_model.specs.Stages.{Caps, turned}
use Rattle.history_model.specs.Invariants.{RunOk}
use Rattle.history_model.specs.Runs.{Run, Step, Entries, DumpState, Done, Rolled, on_line, window, entries_from, oldest, rolled, sent_on}
use Rattle.history_model.specs.Histories.{entries_in}
use Rattle.dump_model.specs.Archives.{oplog, all_pieces}
use Rattle.dump_copies.specs.Steps.{Copying}
use Rattle.dump_copies.specs.Writing.{read_text}
use Rattle.dump_run.specs.declared.fault.DumpFault.{DumpFault}
use Rattle.dump_run.specs.declared.fault.DumpFault.TheVariants as faults
use Rattle.dump_run.specs.Dumps.{Dumping, counted, writing_of, Meets}
use Rattle.dump_run.specs.Calls.{ComesTo, Writes, WritesFront, failed_with}
use Rattle.dump_run.specs.Faults.{of_sink}
use Rattle.dump_run.specs.Rings.{until, bytes_of, sent_text}
use Rattle.dump_run.specs.Rings as rings
use Rattle.dump_run.proofs.Texts.{sum_here, sum_else}
use Rattle.dump_run.proofs.Lines.{tail_by, pieces_push, documents_same, entries_push, text_sent}
use Rattle.dump_run.proofs.Places.{gone, not_gone}
use Rattle.dump_run.proofs.Reading.{dump_of, opened, other_ns, none_some, counted_more}
use Rattle.dump_run.proofs.Windows.{next_in_ring, last_in_ring, window_short}

writing_there : (ss : List Step) (es : List OplogEntry) (b : Bool) → with_documents (writing_of oplog ss) (each entry_bytes es) ≡ writing_of oplog (ss ++ (Entries es b ∷ []))
writing_there ss es b = ap (λ (x : ℕ). record { ns = oplog; sum = x }) (sym (ap (sum_of oplog) (pieces_push ss (Entries es b)) ∙ sum_here oplog (all_pieces ss) (each entry_bytes es) b))

writing_same : (m : NsName) (ss : List Step) (es : List OplogEntry) (b : Bool) → same_ns m oplog ≡ false → writing_of m ss ≡ writing_of m (ss ++ (Entries es b ∷ []))
writing_same m ss es b e = ap (λ (x : ℕ). record { ns = m; sum = x }) (sym (ap (sum_of m) (pieces_push ss (Entries es b)) ∙ sum_else m oplog (all_pieces ss) (each entry_bytes es) b (other_ns m oplog e)))

within : (xs : List Entry) (i : ℕ) (x : Entry) → slice_get xs i ≡ Some x → i < length xs
within [] i x e = cc
within (y ∷ xs) zero x e = omega arith
within (y ∷ xs) (suc i) x e = (let l = within xs i x e in omega (arith, l))

module _ (c : Copying) (w : Writing) (start last b : Ts) (mark : Option Ts) (sent : ℕ) (closed : Bool) (documents entries : ℕ) (failed : Option DumpFault) (d : Dumping) (caps : Caps) (r : Run) (ring : List Entry) (n : ℕ) (is : dump_of c w start last mark sent closed documents entries failed ≡ d)
    (marked : mark ≡ Some b) (open_yet : closed ≡ false) (is_ring : ring ≡ turned r.stage.oplog) (ok : RunOk caps r) (m : Meets d r) where
  meets : Meets (dump_of c w start last mark sent closed documents entries None) r
  meets = opened c w start last mark sent closed documents entries failed d r is m

  abbrev state : DumpState
  state = (dump_of c w start last mark sent closed documents entries None).state

  -- the entry at Start is gone
  pub tail_gone : (old : Ts) (at : End) → rings.StandsAt ring start None → old ≡ oldest start r.stage.oplog →
      ComesTo (Err (faults.Rolled start old)) (on_line (lines.Tail n) r) r d (dump_of c w start last mark sent closed documents entries (Some (faults.Rolled start old))) at at
  tail_gone old at h e = (
    rolled start r,
    tail_by r state meets.there meets.done n b marked open_yet ∙ ap (λ (t : Bool). Ok (elim t as (λ _. Run) [ true ↦ rolled start r | false ↦ sent_on n (window start b (entries_from r)) state r ])) (gone ring r.stage.oplog start is_ring h),
    ap (Rolled start) (sym e),
    ap (failed_with (faults.Rolled start old)) is,
    refl,
  )

  module _ (p first : ℕ) (place : rings.StandsAt ring start (Some p)) (few : length ring ≤ 1000000) (fits : n < 2 ^ 32) (is_first : first ≡ min (p + sent) (2 ^ 64 - 1)) where
    abbrev all : List OplogEntry
    all = window start b (entries_from r)

    at_start : slice_get (turned r.stage.oplog) p ≡ Some (start, place.0)
    at_start = ap (λ (z : List Entry). slice_get z p) (sym is_ring) ∙ place.1

    sent_few : sent ≤ 1000000
    sent_few = meets.few open_yet

    first_is : first ≡ p + sent
    first_is = (let k = within ring p (start, place.0) place.1 in let l = sent_few in omega (arith, k, l, few, is_first))

    next_is : bytes_of (take n (until b (drop first ring))) ≡ each entry_bytes (take n (drop sent (window start b (entries_from r))))
    next_is = (λ i. bytes_of (take n (until b (drop (first_is i) (is_ring i))))) ∙ next_in_ring caps r start b place.0 p sent n ok.0 at_start

    last_is : nat_le (length (until b (drop first ring))) n ≡ nat_le (length (window start b (entries_from r))) (sent + n)
    last_is = (λ i. nat_le (length (until b (drop (first_is i) (is_ring i)))) n) ∙ last_in_ring caps r start b place.0 p sent n ok.0 at_start

    line : on_line (lines.Tail n) r ≡ Ok (sent_on n (window start b (entries_from r)) (dump_of c w start last mark sent closed documents entries None).state r)
    line = tail_by r state meets.there meets.done n b marked open_yet ∙ ap (λ (t : Bool). Ok (elim t as (λ _. Run) [ true ↦ rolled start r | false ↦ sent_on n (window start b (entries_from r)) state r ])) (not_gone ring r.stage.oplog start p is_ring place)

    text_is : sent_text w b n (drop first ring) ≡ read_text w (each entry_bytes (take n (drop sent all))) (nat_le (length all) (sent + n))
    text_is = λ i. read_text w (next_is i) (last_is i)

    not_oplog : (q : NsName) (x : Cursor) → map.get c.cursors q ≡ Some x → same_ns q oplog ≡ false
    not_oplog q x e = by (same_ns q oplog) refl
      where
        by : (t : Bool) → same_ns q oplog ≡ t → t ≡ false
        by true h = none_some x (sym meets.others ∙ (ap (map.get c.cursors) (sym (ns_is q oplog h)) ∙ e))
        by false h = refl

    writers_still : (q : NsName) → map.get c.writers q ≡ option_map (λ (x : Cursor). writing_of q (r.steps ++ (Entries (take n (drop sent all)) (nat_le (length all) (sent + n)) ∷ []))) (map.get c.cursors q)
    writers_still q = meets.writers q ∙ by (map.get c.cursors q) refl
      where
        by : (o : Option Cursor) → map.get c.cursors q ≡ o → option_map (λ (x : Cursor). writing_of q r.steps) o ≡ option_map (λ (x : Cursor). writing_of q (r.steps ++ (Entries (take n (drop sent all)) (nat_le (length all) (sent + n)) ∷ []))) o
        by None e = refl
        by (Some x) e = ap Some (writing_same q r.steps (take n (drop sent all)) (nat_le (length all) (sent + n)) (not_oplog q x e))

    still_few : (t : Bool) → nat_le (length all) (sent + n) ≡ t → t ≡ false → sent + n ≤ 1000000
    still_few t e f = (let g = leb-false (length all) (sent + n) (e ∙ f) in let h = window_short caps r start b place.0 p ok.0 at_start in let k = ap length is_ring in omega (arith, g, h, k, few))

    pub tail_ok : (x : Writing) (block : List (List ℕ)) (closing : Bool) (more_sent more : ℕ) (before after : Option (List ℕ)) → block ≡ bytes_of (take n (until b (drop first ring))) → closing ≡ nat_le (length (until b (drop first ring))) n →
        x ≡ with_documents w (bytes_of (take n (until b (drop first ring)))) → Appends before after (sent_text w b n (drop first ring)) → more_sent ≡ min (sent + n) (2 ^ 64 - 1) → more ≡ min (entries + length block) (2 ^ 64 - 1) →
        (s : Run) × (on_line (lines.Tail n) r ≡ Ok s) × Meets (dump_of c x start last mark more_sent closing documents more failed) s × Writes r s before after
    tail_ok x block closing more_sent more before after eb ec ex a es em =
        let sent_is : more_sent ≡ sent + n = (let l = sent_few in omega (arith, es, l, fits)) in
        let closes : closing ≡ nat_le (length all) (sent + n) = ec ∙ last_is in
        let f : failed ≡ None = ap (λ (z : Dumping). z.failed) is ∙ m.going in
        let h : Meets (dump_of c x start last mark more_sent closing documents more None) (sent_on n (window start b (entries_from r)) (dump_of c w start last mark sent closed documents entries None).state r) = record {
          there = λ i. Some (record { start = start; cursors = c.cursors; last_read = last; mark = mark; sent = sym sent_is i; closed = sym closes i });
          done = meets.done;
          going = refl;
          writers = writers_still;
          others = meets.others;
          oplog_writer = ex ∙ (ap (with_documents w) next_is ∙ (ap (λ (z : Writing). with_documents z (each entry_bytes (take n (drop sent all)))) meets.oplog_writer ∙ writing_there r.steps (take n (drop sent all)) (nat_le (length all) (sent + n))));
          documents = meets.documents ∙ ap counted (sym (documents_same r.steps (take n (drop sent all)) (nat_le (length all) (sent + n))));
          entries = em ∙ (counted_more entries (entries_in r.steps) (length block) meets.entries
              ∙ (ap (λ (i : ℕ). counted (entries_in r.steps + i)) (ap length (eb ∙ next_is) ∙ length-map (take n (drop sent all)) entry_bytes) ∙ ap counted (sym (entries_push r.steps (take n (drop sent all)) (nat_le (length all) (sent + n))))));
          few = λ k. subst (λ (i : ℕ). i ≤ 1000000) (sym sent_is) (still_few closing (sym closes) k);
        } in (
          _,
          line,
          subst (λ (o : Option DumpFault). Meets (dump_of c x start last mark more_sent closing documents more o) (sent_on n (window start b (entries_from r)) (dump_of c w start last mark sent closed documents entries None).state r)) (sym f) h,
          (_, text_sent r.steps w (take n (drop sent all)) (nat_le (length all) (sent + n)) meets.oplog_writer, subst (Appends before after) text_is a),
        )

    pub tail_err : (x : Writing) (before after : End) (fault : Fault) (f : DumpFault) → AppendsFront before.bytes after.bytes (sent_text w b n (drop first ring)) → f ≡ of_sink fault →
        ComesTo (Err f) (on_line (lines.Tail n) r) r d (dump_of c x start last mark sent closed documents entries (Some f)) before after
    tail_err x before after fault f a e =
        subst (λ (z : DumpFault). ComesTo (Err z) (on_line (lines.Tail n) r) r d (dump_of c x start last mark sent closed documents entries (Some z)) before after) (sym e)
        (by fault line m.done (_, text_sent r.steps w (take n (drop sent all)) (nat_le (length all) (sent + n)) meets.oplog_writer, subst (AppendsFront before.bytes after.bytes) text_is a))
      where
        by : (fault : Fault) → {s : Run} → on_line (lines.Tail n) r ≡ Ok s → s.outcome ≡ Done → WritesFront r s before.bytes after.bytes →
            ComesTo (Err (of_sink fault)) (on_line (lines.Tail n) r) r d (dump_of c x start last mark sent closed documents entries (Some (of_sink fault))) before after
        by ends.NoMemory {s} l o t = (s, l, o, t, refl)
        by ends.Failed {s} l o t = (s, l, o, t, refl)
