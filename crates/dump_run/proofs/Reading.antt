-- A dump stands where the run does: as it begins, and after a copy step.
use Rattle.std.proofs.Common.{◌≡◌, ℕ, ◌+◌, ◌-◌, ◌^◌, List, [], ◌∷◌, ◌++◌, length, Bool, true, false, cond, Option, Some, None, Ok, Err, refl, sym, ap, ◌∙◌, subst, arith}
use Rattle.std.specs.Prelude.{option_map, min}
use Rattle.std.specs.FinMap as map
use Rattle.std.specs.Io.KnownBytes.{Appends}
use Rattle.bson_value.specs.declared.namespace.NsName.{NsName}
use Rattle.bson_value.specs.declared.value.Ts.{Ts}
use Rattle.bson_value.specs.NamespaceOrder.{namespace_cmp}
use Rattle.tool_io.specs.Causes.{AppendsFront}
use Rattle.archive_format.specs.Written.{Writing, with_documents, joined}
use Rattle.archive_format.specs.Written as written
use Rattle.archive_format.specs.Archive as archive
use Rattle.archive_content.specs.Pieces.{sum_of}
use Rattle.archive_content.proofs.Pieces.{same_is}
use Rattle.state_model.specs.Keys.{same_ns}
use Rattle.state_model.proofs.Keys.{ns_total, ns_is, ns_from}
use Rattle.state_model.proofs.Maps.{ns_at_insert}
use Rattle.coll_state.specs.Rows.{Row, Rows, Table}
use Rattle.copy_model.specs.Cursors.{Cursor}
use Rattle.copy_model.specs.Copies.{begun}
use Rattle.copy_model.proofs.Agreed.{get_cursor}
use Rattle.schedule_model.specs.declared.line.Line.TheVariants as lines
use Rattle.history_model.specs.Runs.{Run, Step, Documents, DumpState, Done, NoCursor, started, on_line, looked, read_on, all_ended, last_read_at}
use Rattle.history_model.specs.Histories.{documents_in, entries_in}
use Rattle.dump_model.specs.Archives.{oplog, all_pieces, document_texts}
use Rattle.store_core.specs.Stores.{Stored, StandsAt}
use Rattle.dump_copies.specs.Steps.{Copying, begin, writers_of, IsClosed, IsOpen, HasRead}
use Rattle.dump_copies.specs.Writing.{read_text}
use Rattle.dump_run.specs.declared.fault.DumpFault.{DumpFault}
use Rattle.dump_run.specs.Dumps.{Dumping, counted, writing_of, Meets}
use Rattle.tool_io.specs.Ends.{End}
use Rattle.tool_io.specs.declared.ends.Fault.{Fault}
use Rattle.tool_io.specs.declared.ends.Fault.TheVariants as ends
use Rattle.dump_run.specs.Faults.{of_sink}
use Rattle.dump_run.specs.Calls.{Writes, WritesFront, ComesTo}
use Rattle.dump_run.proofs.Texts.{sum_here, sum_else}
use Rattle.dump_run.proofs.Lines.{copy_on, copy_ended, copy_none, pieces_push, documents_push, entries_same, text_read}
use Rattle.dump_copies.proofs.First.{find_writers}

-- a dump by its parts
abbrev pub dump_of : Copying → Writing → Ts → Ts → Option Ts → ℕ → Bool → ℕ → ℕ → Option DumpFault → Dumping
dump_of c w start last mark sent closed documents entries failed = record {
  state = record { start = start; cursors = c.cursors; last_read = last; mark = mark; sent = sent; closed = closed };
  writers = c.writers;
  oplog = w;
  documents = documents;
  entries = entries;
  failed = failed;
}

-- ---- as it begins

get_writer : (r : Rows) (n : NsName) → map.get (begin r).writers n ≡ option_map (λ (t : Table). written.begun n) (map.get r.tables n)
get_writer r n = map.get-from_entries ns_total (writers_of (map.entries r.tables)) n ∙ (find_writers (map.entries r.tables) n ∙ ap (option_map (λ (t : Table). written.begun n)) (sym (map.get-entries r.tables n)))

twice : (w : Writing) (o : Option Table) → option_map (λ (t : Table). w) o ≡ option_map (λ (c : Cursor). w) (option_map begun o)
twice w None = refl
twice w (Some t) = refl

pub meets_begin : (s : Stored) (c : Copying) (w : Writing) (now : Ts) (r : Run) → c ≡ begin s.rows → map.get c.cursors oplog ≡ None → w ≡ written.begun oplog → now ≡ s.log.newest → StandsAt s r.stage → r.steps ≡ [] → r.outcome ≡ Done →
    Meets (dump_of c w now now None 0 false 0 0 None) (started r)
meets_begin s c w now r e o f n st z d =
    let newest : now ≡ r.stage.newest = n ∙ st.newest in
    let copies : c ≡ begin r.stage.rows = e ∙ ap begin st.rows in
    record {
      there = λ i. Some (record { start = sym newest i; cursors = (sym copies i).cursors; last_read = sym newest i; mark = None; sent = 0; closed = false });
      done = d;
      going = refl;
      writers = λ m.
          ap (λ (x : Copying). map.get x.writers m) copies
          ∙ (get_writer r.stage.rows m
          ∙ (twice (written.begun m) (map.get r.stage.rows.tables m)
          ∙ (ap (option_map (λ (x : Cursor). written.begun m)) (sym (get_cursor r.stage.rows m) ∙ ap (λ (x : Copying). map.get x.cursors m) (sym copies))
          ∙ ap (λ (ss : List Step). option_map (λ (x : Cursor). writing_of m ss) (map.get c.cursors m)) (sym z))));
      others = o;
      oplog_writer = f ∙ ap (writing_of oplog) (sym z);
      documents = ap (λ (ss : List Step). counted (documents_in ss)) (sym z);
      entries = ap (λ (ss : List Step). counted (entries_in ss)) (sym z);
      few = λ x. omega arith;
    }

-- ---- after a copy step

clash : {A : Type 0} (b : Bool) → b ≡ true → b ≡ false → A
clash b t f = cc

-- two words for one test of names
pub other_ns : (m n : NsName) → same_ns m n ≡ false → archive.same_ns n m ≡ false
other_ns m n e = by (archive.same_ns n m) refl
  where
    by : (b : Bool) → archive.same_ns n m ≡ b → b ≡ false
    by true h = clash (same_ns m n) (ns_from m n (sym (same_is n m h))) e
    by false h = refl

pub some_is : {A : Type 0} (x y : A) → Some x ≡ Some y → x ≡ y
some_is x y e = cc

pub none_some : {A B : Type 0} (x : A) → None ≡ Some x → B
none_some x e = cc

-- sums behind one step more
pub writing_here : (n : NsName) (ss : List Step) (rs : List Row) (b : Bool) → with_documents (writing_of n ss) (document_texts rs) ≡ writing_of n (ss ++ (Documents n rs b ∷ []))
writing_here n ss rs b = ap (λ (x : ℕ). record { ns = n; sum = x }) (sym (ap (sum_of n) (pieces_push ss (Documents n rs b)) ∙ sum_here n (all_pieces ss) (document_texts rs) b))

pub writing_else : (m n : NsName) (ss : List Step) (rs : List Row) (b : Bool) → same_ns m n ≡ false → writing_of m ss ≡ writing_of m (ss ++ (Documents n rs b ∷ []))
writing_else m n ss rs b e = ap (λ (x : ℕ). record { ns = m; sum = x }) (sym (ap (sum_of m) (pieces_push ss (Documents n rs b)) ∙ sum_else m n (all_pieces ss) (document_texts rs) b (other_ns m n e)))

pub counted_more : (a b k : ℕ) → a ≡ counted b → min (a + k) (2 ^ 64 - 1) ≡ counted (b + k)
counted_more a b k e = omega (arith, e)

module _ (old new : Copying) (w : Writing) (start last : Ts) (mark : Option Ts) (sent : ℕ) (closed : Bool) (documents entries : ℕ) (r : Run) (s : Stored) (n : NsName) (k count : ℕ) (before after : Option (List ℕ)) (cursor : Cursor) (writer : Writing)
    (meets : Meets (dump_of old w start last mark sent closed documents entries None) r) (stands : StandsAt s r.stage) (open_at : IsOpen old n cursor writer) where
  abbrev read : List Row × Cursor
  read = looked k cursor (map.get r.stage.rows.tables n)

  abbrev state : DumpState
  state = (dump_of old w start last mark sent closed documents entries None).state

  same_rows : looked k cursor (map.get s.rows.tables n) ≡ looked k cursor (map.get r.stage.rows.tables n)
  same_rows = ap (λ (rows : Rows). looked k cursor (map.get rows.tables n)) stands.rows

  pub copy_line : on_line (lines.Copy n k) r ≡ Ok (read_on n (looked k cursor (map.get r.stage.rows.tables n)) (dump_of old w start last mark sent closed documents entries None).state r)
  copy_line = copy_on r state meets.there meets.done n k cursor open_at.there open_at.open_yet

  writer_is : writer ≡ writing_of n r.steps
  writer_is = some_is writer (writing_of n r.steps) (sym open_at.writes ∙ (meets.writers n ∙ ap (option_map (λ (c : Cursor). writing_of n r.steps)) open_at.there))

  not_oplog : same_ns oplog n ≡ false
  not_oplog = by (same_ns oplog n) refl
    where
      by : (b : Bool) → same_ns oplog n ≡ b → b ≡ false
      by true h = none_some cursor (sym meets.others ∙ (ap (map.get old.cursors) (ns_is oplog n h) ∙ open_at.there))
      by false h = refl

  pub copy_text : Appends before after (read_text writer (document_texts (looked k cursor (map.get s.rows.tables n)).0) (looked k cursor (map.get s.rows.tables n)).1.ended) → Writes r (read_on n (looked k cursor (map.get r.stage.rows.tables n)) (dump_of old w start last mark sent closed documents entries None).state r) before after
  copy_text a = (_, text_read r.steps n writer read.0 read.1.ended writer_is, subst (λ (z : List Row × Cursor). Appends before after (read_text writer (document_texts z.0) z.1.ended)) same_rows a)

  pub copy_front : AppendsFront before after (read_text writer (document_texts (looked k cursor (map.get s.rows.tables n)).0) (looked k cursor (map.get s.rows.tables n)).1.ended) → WritesFront r (read_on n (looked k cursor (map.get r.stage.rows.tables n)) (dump_of old w start last mark sent closed documents entries None).state r) before after
  copy_front a = (_, text_read r.steps n writer read.0 read.1.ended writer_is, subst (λ (z : List Row × Cursor). AppendsFront before after (read_text writer (document_texts z.0) z.1.ended)) same_rows a)

  module _ (newest later : Ts) (more : ℕ) (is_newest : newest ≡ s.log.newest) (has : HasRead old new n cursor writer (looked k cursor (map.get s.rows.tables n)) count before after)
      (is_later : later ≡ last_read_at (all_ended new.cursors) newest last) (is_more : more ≡ min (documents + count) (2 ^ 64 - 1)) where
    cursors_are : new.cursors ≡ map.insert old.cursors n (looked k cursor (map.get r.stage.rows.tables n)).1
    cursors_are = has.cursors ∙ ap (λ (z : List Row × Cursor). map.insert old.cursors n z.1) same_rows

    writers_are : new.writers ≡ map.insert old.writers n (with_documents writer (document_texts (looked k cursor (map.get r.stage.rows.tables n)).0))
    writers_are = has.writers ∙ ap (λ (z : List Row × Cursor). map.insert old.writers n (with_documents writer (document_texts z.0))) same_rows

    one_writer : (m : NsName) → map.get new.writers m ≡ option_map (λ (c : Cursor). writing_of m (r.steps ++ (Documents n read.0 read.1.ended ∷ []))) (map.get new.cursors m)
    one_writer m =
        ap (λ (z : map.FinMap namespace_cmp Writing). map.get z m) writers_are ∙ (ns_at_insert old.writers n (with_documents writer (document_texts read.0)) m
        ∙ (by (same_ns m n) refl
        ∙ ap (option_map (λ (c : Cursor). writing_of m (r.steps ++ (Documents n read.0 read.1.ended ∷ [])))) (sym (ap (λ (z : map.FinMap namespace_cmp Cursor). map.get z m) cursors_are ∙ ns_at_insert old.cursors n read.1 m))))
      where
        by : (b : Bool) → same_ns m n ≡ b → cond b (Some (with_documents writer (document_texts read.0))) (map.get old.writers m) ≡ option_map (λ (c : Cursor). writing_of m (r.steps ++ (Documents n read.0 read.1.ended ∷ []))) (cond b (Some read.1) (map.get old.cursors m))
        by true h = ap (λ (x : Writing). Some (with_documents x (document_texts read.0))) writer_is ∙ (ap Some (writing_here n r.steps read.0 read.1.ended) ∙ ap (λ (x : NsName). Some (writing_of x (r.steps ++ (Documents n read.0 read.1.ended ∷ [])))) (sym (ns_is m n h)))
        by false h = meets.writers m ∙ ap (λ (x : Writing). option_map (λ (c : Cursor). x) (map.get old.cursors m)) (writing_else m n r.steps read.0 read.1.ended h)

    pub copy_meets : Meets (dump_of new w start later mark sent closed more entries None) (read_on n (looked k cursor (map.get r.stage.rows.tables n)) (dump_of old w start last mark sent closed documents entries None).state r)
    copy_meets =
        let later_is : last_read_at (all_ended (map.insert old.cursors n read.1)) r.stage.newest last ≡ later =
        (λ i. last_read_at (all_ended (sym cursors_are i)) (sym (is_newest ∙ stands.newest) i) last) ∙ sym is_later in
        record {
          there = λ i. Some (record { start = start; cursors = sym cursors_are i; last_read = later_is i; mark = mark; sent = sent; closed = closed });
          done = meets.done;
          going = refl;
          writers = one_writer;
          others = ap (λ (z : map.FinMap namespace_cmp Cursor). map.get z oplog) cursors_are ∙ (ns_at_insert old.cursors n read.1 oplog ∙ (ap (λ (b : Bool). cond b (Some read.1) (map.get old.cursors oplog)) not_oplog ∙ meets.others));
          oplog_writer = meets.oplog_writer ∙ writing_else oplog n r.steps read.0 read.1.ended not_oplog;
          documents = is_more ∙ (counted_more documents (documents_in r.steps) count meets.documents
              ∙ (ap (λ (i : ℕ). counted (documents_in r.steps + i)) (has.counted ∙ ap (λ (z : List Row × Cursor). length z.0) same_rows) ∙ ap counted (sym (documents_push r.steps n read.0 read.1.ended))));
          entries = meets.entries ∙ ap counted (sym (entries_same r.steps n read.0 read.1.ended));
          few = meets.few;
        }

-- no cursor reads on
pub closed_line : (r : Run) (d : DumpState) (n : NsName) (k : ℕ) → r.dump ≡ Some d → r.outcome ≡ Done → IsClosed (map.get d.cursors n) → on_line (lines.Copy n k) r ≡ Err NoCursor
closed_line r d n k e f h = by (map.get d.cursors n) refl h
  where
    by : (o : Option Cursor) → map.get d.cursors n ≡ o → IsClosed o → on_line (lines.Copy n k) r ≡ Err NoCursor
    by None g h = copy_none r d e f n k g
    by (Some c) g h = copy_ended r d e f n k c g h

-- ---- the call

-- a dump that goes on, by its parts
pub opened : (c : Copying) (w : Writing) (start last : Ts) (mark : Option Ts) (sent : ℕ) (closed : Bool) (documents entries : ℕ) (failed : Option DumpFault) (d : Dumping) (r : Run) →
    dump_of c w start last mark sent closed documents entries failed ≡ d → Meets d r → Meets (dump_of c w start last mark sent closed documents entries None) r
opened c w start last mark sent closed documents entries failed d r e m =
    (let f : failed ≡ None = ap (λ (z : Dumping). z.failed) e ∙ m.going in
    subst (λ (o : Option DumpFault). Meets (dump_of c w start last mark sent closed documents entries o) r) f (subst (λ (z : Dumping). Meets z r) (sym e) m))

pub closed_up : (c x : Copying) (w v : Writing) (start last later : Ts) (mark : Option Ts) (sent : ℕ) (closed : Bool) (documents entries more : ℕ) (failed : Option DumpFault) (d : Dumping) (r s : Run) →
    dump_of c w start last mark sent closed documents entries failed ≡ d → Meets d r → Meets (dump_of x v start later mark sent closed more entries None) s → Meets (dump_of x v start later mark sent closed more entries failed) s
closed_up c x w v start last later mark sent closed documents entries more failed d r s e m h =
    (let f : failed ≡ None = ap (λ (z : Dumping). z.failed) e ∙ m.going in
    subst (λ (o : Option DumpFault). Meets (dump_of x v start later mark sent closed more entries o) s) (sym f) h)

pub copied_ok : (old new : Copying) (w : Writing) (start last : Ts) (mark : Option Ts) (sent : ℕ) (closed : Bool) (documents entries : ℕ) (failed : Option DumpFault) (d : Dumping) (r : Run) (s : Stored) (n : NsName) (k count : ℕ) (before after : Option (List ℕ)) (newest later : Ts) (more : ℕ) (ended : Bool) →
    dump_of old w start last mark sent closed documents entries failed ≡ d →
    (c : Cursor) × (v : Writing) × IsOpen old n c v × HasRead old new n c v (looked k c (map.get s.rows.tables n)) count before after →
    newest ≡ s.log.newest → ended ≡ all_ended new.cursors → later ≡ last_read_at ended newest last → more ≡ min (documents + count) (2 ^ 64 - 1) →
    StandsAt s r.stage → Meets d r →
    (x : Run) × (on_line (lines.Copy n k) r ≡ Ok x) × Meets (dump_of new w start later mark sent closed more entries failed) x × Writes r x before after
copied_ok old new w start last mark sent closed documents entries failed d r s n k count before after newest later more ended e h is_newest is_ended is_later is_more stands m =
    (let meets = opened old w start last mark sent closed documents entries failed d r e m in
    let later_is : later ≡ last_read_at (all_ended new.cursors) newest last = is_later ∙ ap (λ (b : Bool). last_read_at b newest last) is_ended in (
      _,
      copy_line old new w start last mark sent closed documents entries r s n k count before after h.0 h.1 meets stands h.2,
      closed_up old new w w start last later mark sent closed documents entries more failed d r _ e m
          (copy_meets old new w start last mark sent closed documents entries r s n k count before after h.0 h.1 meets stands h.2 newest later more is_newest h.3 later_is is_more),
      copy_text old new w start last mark sent closed documents entries r s n k count before after h.0 h.1 meets stands h.2 h.3.text,
    ))

pub copied_err : (old new : Copying) (w : Writing) (start last : Ts) (mark : Option Ts) (sent : ℕ) (closed : Bool) (documents entries : ℕ) (failed : Option DumpFault) (d : Dumping) (r : Run) (s : Stored) (n : NsName) (k : ℕ) (before after : End) (fault : Fault) (f : DumpFault) →
    dump_of old w start last mark sent closed documents entries failed ≡ d →
    (c : Cursor) × (v : Writing) × IsOpen old n c v × AppendsFront before.bytes after.bytes (read_text v (document_texts (looked k c (map.get s.rows.tables n)).0) (looked k c (map.get s.rows.tables n)).1.ended) →
    f ≡ of_sink fault → StandsAt s r.stage → Meets d r →
    ComesTo (Err f) (on_line (lines.Copy n k) r) r d (dump_of new w start last mark sent closed documents entries (Some f)) before after
copied_err old new w start last mark sent closed documents entries failed d r s n k before after fault f e h g stands m =
    (let meets = opened old w start last mark sent closed documents entries failed d r e m in
    subst (λ (z : DumpFault). ComesTo (Err z) (on_line (lines.Copy n k) r) r d (dump_of new w start last mark sent closed documents entries (Some z)) before after) (sym g)
    (by fault
    (copy_line old new w start last mark sent closed documents entries r s n k 0 before.bytes after.bytes h.0 h.1 meets stands h.2)
    m.done
    (copy_front old new w start last mark sent closed documents entries r s n k 0 before.bytes after.bytes h.0 h.1 meets stands h.2 h.3)))
  where
    by : (fault : Fault) → {x : Run} → on_line (lines.Copy n k) r ≡ Ok x → x.outcome ≡ Done → WritesFront r x before.bytes after.bytes →
        ComesTo (Err (of_sink fault)) (on_line (lines.Copy n k) r) r d (dump_of new w start last mark sent closed documents entries (Some (of_sink fault))) before after
    by ends.NoMemory {x} l o t = (x, l, o, t, refl)
    by ends.Failed {x} l o t = (x, l, o, t, refl)
