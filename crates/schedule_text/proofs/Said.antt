-- What lines say, both ways.
use Rattle.std.proofs.Common.{◌≡◌, ℕ, Bool, true, List, [], ◌∷◌, refl, sym, ap, ◌∙◌, inl, inr, subst}
use Rattle.std.specs.Prelude.{◌&&◌, ◌==◌, not, nat_le, Option, Some, None, codes, Ok, Err}
use Rattle.std.specs.Str.{is_utf8}
use Rattle.std.proofs.lemmas.Bool.{cases_Bool}
use Rattle.containers.specs.Entries.{lookup, without}
use Rattle.doc_path.specs.declared.parts.Form.{Form}
use Rattle.doc_path.specs.declared.parts.Form.TheVariants as forms
use Rattle.bson_value.specs.declared.namespace.NsName.{NsName}
use Rattle.bson_value.specs.declared.value.Value.{Value}
use Rattle.json_text.specs.Grammar.{ReadIsJson}
use Rattle.schedule_model.specs.declared.command.DocumentCommand.TheVariants as documents
use Rattle.schedule_model.specs.declared.command.Command.TheVariants as commands
use Rattle.schedule_model.specs.declared.line.Line.TheVariants as lines
use Rattle.schedule_text.specs.declared.fault.LineKind.TheVariants as kinds
use Rattle.schedule_text.specs.declared.verb.Verb.{Verb}
use Rattle.schedule_text.specs.declared.verb.Verb.TheVariants as verbs
use Rattle.schedule_text.specs.declared.verb.Context.{Context}
use Rattle.schedule_text.specs.declared.statement.Statement.{Statement}
use Rattle.schedule_text.specs.declared.statement.Statement.TheVariants as statements
use Rattle.schedule_text.specs.Words.{form_of, lacks, is_empty, is_word, is_first, is_second, takes, may_stand, words_of, least, most, is_inside, is_at_start}
use Rattle.schedule_text.specs.Operands.{Doc, Read, ◌>>=◌, some_or, number_in, name_of, document_in, identified, alone}
use Rattle.schedule_text.specs.Statements.{command, document, bare, with_one, update, with_two, statement_of}
use Rattle.schedule_text.specs.Reading.{text_in, said}
use Rattle.schedule_text.specs.Grammar.{IsWord, IsNumber, IsName, IsDocument, one, two, OfDocument, OfIdentified, IsDocumentCommand, IsCommand, IsStep, IsCap}
use Rattle.schedule_text.proofs.Cuts.{both}
use Rattle.schedule_text.proofs.VerbWords.{verb_name, is_form_name, IsSpelled, are_words}
use Rattle.schedule_text.proofs.Names.{is_split}
use Rattle.schedule_text.proofs.OperandTexts.{binds, is_number, is_document, is_identified}

-- the line says this
abbrev pub Says : List ℕ → Statement → Type 0
Says line (statements.Cap entries bytes) = IsCap line entries bytes
Says line (statements.Document d) = IsDocumentCommand line d
Says line (statements.Line (lines.Cmd c)) = IsCommand line c
Says line (statements.Line x) = IsStep line x
Says line statements.Begin = line ≡ codes "begin"
Says line statements.Commit = line ≡ codes "commit"
Says line statements.Abort = line ≡ codes "abort"

is_some_word : (a : List ℕ) → is_word a ≡ true → IsWord a
is_some_word a e =
    let p = both (not (is_empty a)) (lacks 32 a) e in
    (λ n. let f : is_empty a ≡ true = ap is_empty n in let g = rw f at p.0 in cc, p.1)

-- where a line that says this may stand
abbrev pub stands_in : Statement → Context → Bool
stands_in (statements.Cap entries bytes) context = is_at_start context
stands_in (statements.Document d) context = true
stands_in (statements.Line (lines.Cmd c)) context = not (is_inside context)
stands_in (statements.Line x) context = true
stands_in statements.Begin context = not (is_inside context)
stands_in statements.Commit context = is_inside context
stands_in statements.Abort context = is_inside context

-- what is read of a line with this verb is what it says, and stands where the verb does
abbrev Fits : Verb → List ℕ → Read Statement → Type 0
Fits verb line (Ok s) = Says line s × ((context : Context) → may_stand verb context ≡ stands_in s context)
Fits verb line (Err k) = Unit {0}

bare_fits : (verb : Verb) → Fits verb (verb_name verb) (bare verb)
bare_fits verbs.Dump = (refl, λ c. refl)
bare_fits verbs.Mark = (refl, λ c. refl)
bare_fits verbs.Begin = (refl, λ c. refl)
bare_fits verbs.Commit = (refl, λ c. refl)
bare_fits verbs.Abort = (refl, λ c. refl)
bare_fits _ = tt

module _ (verb : Verb) (line : List ℕ) where
  of_name : (a : List ℕ) (w : is_word a ≡ true) (f : NsName → Read Statement) → ((ns : NsName) → IsName a ns → Fits verb line (f ns)) → (r : Read NsName) → name_of a ≡ r → Fits verb line (r >>= f)
  of_name a w f says (Ok ns) e = says ns (is_some_word a w, is_split a ns e)
  of_name a w f says (Err k) e = tt

  of_number : (low high : ℕ) (a : List ℕ) (f : ℕ → Read Statement) → ((n : ℕ) → IsNumber low high a n → Fits verb line (f n)) → (r : Read ℕ) → number_in low high a ≡ r → Fits verb line (r >>= f)
  of_number low high a f says (Ok n) e = says n (is_number low high a n e)
  of_number low high a f says (Err k) e = tt

  of_document : ReadIsJson → (text : List ℕ) (f : Doc → Read Statement) → ((doc : Doc) → IsDocument text doc → Fits verb line (f doc)) → (r : Read Doc) → document_in text ≡ r → Fits verb line (r >>= f)
  of_document spells text f says (Ok doc) e = says doc (is_document spells text doc e)
  of_document spells text f says (Err k) e = tt

  of_identified : (doc : Doc) (f : Value × Doc → Read Statement) → ((x : Value × Doc) → lookup (codes "_id") doc ≡ Some x.0 → without (codes "_id") doc ≡ x.1 → Fits verb line (f x))
      → (r : Read (Value × Doc)) → identified doc ≡ r → Fits verb line (r >>= f)
  of_identified doc f says (Ok x) e = let p = is_identified doc x e in says x p.0 p.1
  of_identified doc f says (Err k) e = tt

  of_alone : (id : Value) (others : Doc) (f : Value → Read Statement) → (others ≡ [] → Fits verb line (f id)) → Fits verb line (alone (id, others) >>= f)
  of_alone id [] f says = says refl
  of_alone id (x ∷ xs) f says = tt

form_fits : (v : List ℕ) (r : Option Form) → form_of v ≡ r → Fits verbs.Record (one (codes "record") v) (some_or kinds.Words r >>= λ form. command (commands.Recording form))
form_fits v None e = tt
form_fits v (Some forms.V1) e = (ap (λ (x : List ℕ). one (codes "record") x) (is_form_name v forms.V1 e), λ c. refl)
form_fits v (Some forms.V2) e = (ap (λ (x : List ℕ). one (codes "record") x) (is_form_name v forms.V2 e), λ c. refl)

one_fits : (verb : Verb) (a : List ℕ) → is_first verb a ≡ true → Fits verb (one (verb_name verb) a) (with_one verb a)
one_fits verbs.Oplog a w = of_number verbs.Oplog (one (codes "oplog") a) 1 1000000 a (λ n. Ok (statements.Cap n None)) (λ n i. ((a, i, refl), λ c. refl)) (number_in 1 1000000 a) refl
one_fits verbs.Record a w = form_fits a (form_of a) refl
one_fits verbs.At a w = of_number verbs.At (one (codes "at") a) 0 4294967295 a (λ n. command (commands.At n)) (λ n i. ((a, i, refl), λ c. refl)) (number_in 0 4294967295 a) refl
one_fits verbs.Create a w = of_name verbs.Create (one (codes "create") a) a w (λ ns. command (commands.Create ns [])) (λ ns i. (inl ((a, i, refl), refl), λ c. refl)) (name_of a) refl
one_fits verbs.DropColl a w = of_name verbs.DropColl (one (codes "drop") a) a w (λ ns. command (commands.DropColl ns)) (λ ns i. ((a, i, refl), λ c. refl)) (name_of a) refl
one_fits verbs.DropDatabase a w = ((is_some_word a w, refl), λ c. refl)
one_fits verbs.Tail a w = of_number verbs.Tail (one (codes "tail") a) 1 1000000 a (λ n. Ok (statements.Line (lines.Tail n))) (λ n i. ((a, i, refl), λ c. refl)) (number_in 1 1000000 a) refl
one_fits _ a w = tt

-- a line of the grammar that may stand there
pub record IsSaid (context : Context) (line : List ℕ) (s : Statement) : Type 0 where
  pub utf8 : is_utf8 line ≡ true
  pub says : Says line s
  pub stands : stands_in s context ≡ true

module _ (spells : ReadIsJson) where
  named_document : (verb : Verb) (v a text : List ℕ) → is_word a ≡ true → (f : NsName → Doc → Read Statement) → ((ns : NsName) (doc : Doc) → OfDocument (two v a text) v ns doc → Fits verb (two v a text) (f ns doc))
      → Fits verb (two v a text) (name_of a >>= λ ns. document_in text >>= λ doc. f ns doc)
  named_document verb v a text w f says =
      of_name verb (two v a text) a w (λ ns. document_in text >>= λ doc. f ns doc)
      (λ ns i. of_document verb (two v a text) spells text (λ doc. f ns doc) (λ doc d. says ns doc (a, text, i, d, refl)) (document_in text) refl) (name_of a) refl

  named_identified : (verb : Verb) (v a text : List ℕ) → is_word a ≡ true → (f : NsName → Value × Doc → Read Statement)
      → ((ns : NsName) (x : Value × Doc) → OfIdentified (two v a text) v ns x.0 x.1 → Fits verb (two v a text) (f ns x))
      → Fits verb (two v a text) (name_of a >>= λ ns. document_in text >>= λ doc. identified doc >>= λ x. f ns x)
  named_identified verb v a text w f says =
      named_document verb v a text w (λ ns doc. identified doc >>= λ x. f ns x)
      (λ ns doc d. of_identified verb (two v a text) doc (λ x. f ns x) (λ x l o. says ns x (d.0, d.1, d.2, (doc, d.3, l, o), d.4)) (identified doc) refl)

  two_fits : (verb : Verb) (a b : List ℕ) → is_word a ≡ true → is_second verb b ≡ true → Fits verb (two (verb_name verb) a b) (with_two verb a b)
  two_fits verbs.Oplog a b w s =
      of_number verbs.Oplog (two (codes "oplog") a b) 1 1000000 a (λ n. number_in 1 1073741824 b >>= λ m. Ok (statements.Cap n (Some m)))
      (λ n i. of_number verbs.Oplog (two (codes "oplog") a b) 1 1073741824 b (λ m. Ok (statements.Cap n (Some m))) (λ m j. ((a, b, i, j, refl), λ c. refl)) (number_in 1 1073741824 b) refl) (number_in 1 1000000 a) refl
  two_fits verbs.Create a b w s = named_document verbs.Create (codes "create") a b w (λ ns doc. command (commands.Create ns doc)) (λ ns doc d. (inr d, λ c. refl))
  two_fits verbs.Rename a b w s =
      of_name verbs.Rename (two (codes "rename") a b) a w (λ from. name_of b >>= λ to. command (commands.Rename from to))
      (λ from i. of_name verbs.Rename (two (codes "rename") a b) b s (λ to. command (commands.Rename from to)) (λ to j. ((a, b, i, j, refl), λ c. refl)) (name_of b) refl) (name_of a) refl
  two_fits verbs.Insert a b w s = named_document verbs.Insert (codes "insert") a b w (λ ns doc. document (documents.Insert ns doc)) (λ ns doc d. (d, λ c. refl))
  two_fits verbs.Replace a b w s = named_document verbs.Replace (codes "replace") a b w (λ ns doc. document (documents.Replace ns doc)) (λ ns doc d. (d, λ c. refl))
  two_fits verbs.Update a b w s = named_identified verbs.Update (codes "update") a b w (λ ns x. update ns x) (λ ns x d. (d, λ c. refl))
  two_fits verbs.Delete a b w s =
      named_identified verbs.Delete (codes "delete") a b w (λ ns x. alone x >>= λ id. document (documents.Delete ns id))
      (λ ns x d. of_alone verbs.Delete (two (codes "delete") a b) x.0 x.1 (λ id. document (documents.Delete ns id)) (λ n. (subst (λ (o : Doc). OfIdentified (two (codes "delete") a b) (codes "delete") ns x.0 o) n d, λ c. refl)))
  two_fits verbs.CreateIndex a b w s = named_document verbs.CreateIndex (codes "createIndex") a b w (λ ns doc. command (commands.CreateIndex ns doc)) (λ ns doc d. (d, λ c. refl))
  two_fits verbs.DropIndex a b w s = of_name verbs.DropIndex (two (codes "dropIndex") a b) a w (λ ns. command (commands.DropIndex ns b)) (λ ns i. ((a, i, is_some_word b s, refl), λ c. refl)) (name_of a) refl
  two_fits verbs.Copy a b w s =
      of_number verbs.Copy (two (codes "copy") a b) 1 1000000 b (λ n. name_of a >>= λ ns. Ok (statements.Line (lines.Copy ns n)))
      (λ n j. of_name verbs.Copy (two (codes "copy") a b) a w (λ ns. Ok (statements.Line (lines.Copy ns n))) (λ ns i. ((a, b, i, j, refl), λ c. refl)) (name_of a) refl) (number_in 1 1000000 b) refl
  two_fits _ a b w s = tt

  words_fit : (verb : Verb) (operands : List (List ℕ)) (line : List ℕ) → takes verb operands ≡ true → IsSpelled line verb operands → Fits verb line (statement_of verb operands)
  unfolding takes statement_of
  words_fit verb [] line t l = rw l (bare_fits verb)
  words_fit verb (a ∷ []) line t l = let p = both (nat_le (least verb) 1 && nat_le 1 (most verb)) (is_first verb a) t in rw l (one_fits verb a p.1)
  words_fit verb (a ∷ b ∷ []) line t l =
      let p = both (most verb == 2 && is_word a) (is_second verb b) t in
      let q = both (most verb == 2) (is_word a) p.0 in
      rw l (two_fits verb a b q.1 p.1)
  words_fit verb (a ∷ b ∷ c ∷ rest) line t l = absurd cc

  pub is_said : (context : Context) (line : List ℕ) (s : Statement) → said context line ≡ Ok s → IsSaid context line s
  unfolding said text_in
  is_said context line s e =
      elim (cases_Bool (is_utf8 line)) [
        | inl t ↦
            let b = binds (words_of context line) (λ words. statement_of words.0 words.1) s (rw t at e) in
            let w = are_words context line b.value.0 b.value.1 b.first in
            let f : Fits b.value.0 line (Ok s) = subst (λ (r : Read Statement). Fits b.value.0 line r) b.then_ (words_fit b.value.0 b.value.1 line w.taken w.spelled) in
            record { utf8 = t; says = f.0; stands = sym (f.1 context) ∙ w.stands }
        | inr t ↦ let f = rw t at e in absurd cc
      ]
