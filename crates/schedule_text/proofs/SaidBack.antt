-- A line of the grammar is read as what it says.
use Rattle.std.proofs.Common.{◌≡◌, ℕ, zero, suc, ◌+◌, ◌/◌, ◌%◌, true, false, List, [], ◌∷◌, ◌++◌, refl, sym, ap, ◌∙◌, arith, inl, inr, subst}
use Rattle.std.specs.Prelude.{◌&&◌, ◌==◌, not, nat_lt, nat_le, Some, None, is_some, codes, Ok}
use Rattle.std.specs.Str.{is_utf8}
use Rattle.std.proofs.lemmas.Bool.{cases_Bool, ne_eqb}
use Rattle.std.proofs.lemmas.List.Folds.{list_all-append}
use Rattle.doc_path.specs.declared.parts.Form.TheVariants as forms
use Rattle.bson_value.specs.Digits.{digits, digits_in}
use Rattle.json_text.specs.Grammar.{JsonIsRead}
use Rattle.schedule_model.specs.declared.command.DocumentCommand.TheVariants as documents
use Rattle.schedule_model.specs.declared.command.Command.TheVariants as commands
use Rattle.schedule_model.specs.declared.line.Line.TheVariants as lines
use Rattle.schedule_text.specs.declared.verb.Verb.{Verb}
use Rattle.schedule_text.specs.declared.verb.Verb.TheVariants as verbs
use Rattle.schedule_text.specs.declared.verb.Context.{Context}
use Rattle.schedule_text.specs.declared.statement.Statement.{Statement}
use Rattle.schedule_text.specs.declared.statement.Statement.TheVariants as statements
use Rattle.schedule_text.specs.Words.{form_of, lacks, is_empty, is_word, is_first, is_second, takes, may_stand, placed, words_of, least, most}
use Rattle.schedule_text.specs.Operands.{Doc}
use Rattle.schedule_text.specs.Statements.{bare, with_one, with_two, statement_of}
use Rattle.schedule_text.specs.Reading.{text_in, said}
use Rattle.schedule_text.specs.Grammar.{IsWord, IsNumber, IsDocument, one, two}
use Rattle.schedule_text.proofs.Cuts.{both_true}
use Rattle.schedule_text.proofs.VerbWords.{verb_name, named_verb, name_is_word, words_bare, words_one, words_two}
use Rattle.schedule_text.proofs.Names.{name_is, not_empty}
use Rattle.schedule_text.proofs.OperandTexts.{number_is, document_is, identified_is, json_is_some}
use Rattle.schedule_text.proofs.Said.{Says, stands_in}

-- ---- words

is_word_true : (a : List ℕ) → IsWord a → is_word a ≡ true
is_word_true a (n, l) = both_true (not (is_empty a)) (lacks 32 a) (rw (not_empty a n) refl) l

no_space : (k n : ℕ) → lacks 32 (digits_in k n) ≡ true
unfolding digits_in
no_space zero n = refl
no_space (suc k) n =
    elim (cases_Bool (nat_lt n 10)) [
      | inl e ↦ let f : ((48 + n) == 32) ≡ false = ne_eqb (48 + n) 32 (λ h. omega (arith, h)) in rw (e, f) refl
      | inr e ↦ let f : ((48 + n % 10) == 32) ≡ false = ne_eqb (48 + n % 10) 32 (λ h. omega (arith, h)) in
          rw (e, list_all-append (λ b. not (b == 32)) (digits_in k (n / 10)) ((48 + n % 10) ∷ []), no_space k (n / 10), f) refl
    ]

some_digits : (n : ℕ) → digits n ≡ [] → ⊥
unfolding digits digits_in
some_digits n =
    elim (cases_Bool (nat_lt n 10)) [
      | inl e ↦ rw e (λ h. cc)
      | inr e ↦ rw e (λ h. some_behind (digits_in n (n / 10)) (48 + n % 10) h)
    ]
  where
    some_behind : (xs : List ℕ) (b : ℕ) → xs ++ b ∷ [] ≡ [] → ⊥
    some_behind [] b h = cc
    some_behind (x ∷ xs) b h = cc

digits_are_word : (n : ℕ) → IsWord (digits n)
unfolding digits
digits_are_word n = (some_digits n, no_space (suc n) n)

number_word : {low high : ℕ} (a : List ℕ) (n : ℕ) → IsNumber low high a n → IsWord a
number_word a n (t, l, h) = subst IsWord (sym t) (digits_are_word n)

-- ---- a line of these words

module _ (context : Context) (line : List ℕ) (utf8 : is_utf8 line ≡ true) (verb : Verb) (s : Statement) (stands : may_stand verb context ≡ true) where
  by_words : (operands : List (List ℕ)) → words_of context line ≡ placed context verb operands → takes verb operands ≡ true → statement_of verb operands ≡ Ok s → said context line ≡ Ok s
  unfolding said text_in
  by_words operands w t e = rw (utf8, w, t, stands) e

  said_bare : line ≡ verb_name verb → least verb ≡ 0 → bare verb ≡ Ok s → said context line ≡ Ok s
  unfolding takes statement_of
  said_bare l t e =
      by_words [] (ap (λ (x : List ℕ). words_of context x) l ∙ words_bare context (verb_name verb) verb (named_verb verb) (name_is_word verb)) (rw t refl) e

  said_one : (a : List ℕ) → line ≡ one (verb_name verb) a → lacks 32 a ≡ true → nat_le (least verb) 1 && nat_le 1 (most verb) ≡ true → is_first verb a ≡ true → with_one verb a ≡ Ok s → said context line ≡ Ok s
  unfolding takes statement_of
  said_one a l w t f e =
      by_words (a ∷ []) (ap (λ (x : List ℕ). words_of context x) l ∙ words_one context (verb_name verb) a verb (named_verb verb) (name_is_word verb) w)
      (both_true (nat_le (least verb) 1 && nat_le 1 (most verb)) (is_first verb a) t f) e

  said_two : (a b : List ℕ) → line ≡ two (verb_name verb) a b → IsWord a → most verb == 2 ≡ true → is_second verb b ≡ true → with_two verb a b ≡ Ok s → said context line ≡ Ok s
  unfolding takes statement_of
  said_two a b l w t f e =
      by_words (a ∷ b ∷ []) (ap (λ (x : List ℕ). words_of context x) l ∙ words_two context (verb_name verb) a b verb (named_verb verb) (name_is_word verb) w.1)
      (both_true (most verb == 2 && is_word a) (is_second verb b) (both_true (most verb == 2) (is_word a) t (is_word_true a w)) f) e

form_v1 : form_of (codes "v1") ≡ Some forms.V1
unfolding form_of
form_v1 = refl

form_v2 : form_of (codes "v2") ≡ Some forms.V2
unfolding form_of
form_v2 = refl

-- ---- what lines say

module _ (reads : JsonIsRead) (context : Context) (line : List ℕ) (u : is_utf8 line ≡ true) where
  text_is_some : (text : List ℕ) (doc : Doc) → IsDocument text doc → not (is_empty text) ≡ true
  text_is_some text doc d = rw (json_is_some reads text doc d) refl

  pub said_is : (s : Statement) → Says line s → stands_in s context ≡ true → said context line ≡ Ok s
  said_is (statements.Cap n None) (a, i, l) st =
      said_one context line u verbs.Oplog (statements.Cap n None) st a l (number_word a n i).1 refl (is_word_true a (number_word a n i)) (rw (number_is 1 1000000 a n i) refl)
  said_is (statements.Cap n (Some m)) (a, b, i, j, l) st =
      said_two context line u verbs.Oplog (statements.Cap n (Some m)) st a b l (number_word a n i) refl (is_word_true b (number_word b m j)) (rw (number_is 1 1000000 a n i, number_is 1 1073741824 b m j) refl)
  said_is (statements.Document (documents.Insert ns doc)) (a, text, i, d, l) st =
      said_two context line u verbs.Insert (statements.Document (documents.Insert ns doc)) st a text l i.0 refl (text_is_some text doc d) (rw (name_is a ns i.1, document_is reads text doc d) refl)
  said_is (statements.Document (documents.Replace ns doc)) (a, text, i, d, l) st =
      said_two context line u verbs.Replace (statements.Document (documents.Replace ns doc)) st a text l i.0 refl (text_is_some text doc d) (rw (name_is a ns i.1, document_is reads text doc d) refl)
  said_is (statements.Document (documents.Update ns id ops)) (a, text, i, (doc, d, p, o), l) st =
      said_two context line u verbs.Update (statements.Document (documents.Update ns id ops)) st a text l i.0 refl (text_is_some text doc d) (rw (name_is a ns i.1, document_is reads text doc d, identified_is doc id ops p o) refl)
  said_is (statements.Document (documents.Delete ns id)) (a, text, i, (doc, d, p, o), l) st =
      said_two context line u verbs.Delete (statements.Document (documents.Delete ns id)) st a text l i.0 refl (text_is_some text doc d) (rw (name_is a ns i.1, document_is reads text doc d, identified_is doc id [] p o) refl)
  said_is (statements.Line (lines.Cmd (commands.At n))) (a, i, l) st =
      said_one context line u verbs.At (statements.Line (lines.Cmd (commands.At n))) st a l (number_word a n i).1 refl (is_word_true a (number_word a n i)) (rw (number_is 0 4294967295 a n i) refl)
  said_is (statements.Line (lines.Cmd (commands.Recording forms.V1))) l st =
      said_one context line u verbs.Record (statements.Line (lines.Cmd (commands.Recording forms.V1))) st (codes "v1") l refl refl (ap is_some form_v1) (rw form_v1 refl)
  said_is (statements.Line (lines.Cmd (commands.Recording forms.V2))) l st =
      said_one context line u verbs.Record (statements.Line (lines.Cmd (commands.Recording forms.V2))) st (codes "v2") l refl refl (ap is_some form_v2) (rw form_v2 refl)
  said_is (statements.Line (lines.Cmd (commands.Create ns options))) (inl ((a, i, l), o)) st =
      said_one context line u verbs.Create (statements.Line (lines.Cmd (commands.Create ns options))) st a l i.0.1 refl (is_word_true a i.0) (rw (name_is a ns i.1, o) refl)
  said_is (statements.Line (lines.Cmd (commands.Create ns options))) (inr (a, text, i, d, l)) st =
      said_two context line u verbs.Create (statements.Line (lines.Cmd (commands.Create ns options))) st a text l i.0 refl (text_is_some text options d) (rw (name_is a ns i.1, document_is reads text options d) refl)
  said_is (statements.Line (lines.Cmd (commands.DropColl ns))) (a, i, l) st =
      said_one context line u verbs.DropColl (statements.Line (lines.Cmd (commands.DropColl ns))) st a l i.0.1 refl (is_word_true a i.0) (rw (name_is a ns i.1) refl)
  said_is (statements.Line (lines.Cmd (commands.DropDatabase db))) (w, l) st =
      said_one context line u verbs.DropDatabase (statements.Line (lines.Cmd (commands.DropDatabase db))) st db l w.1 refl (is_word_true db w) refl
  said_is (statements.Line (lines.Cmd (commands.Rename from to))) (a, b, i, j, l) st =
      said_two context line u verbs.Rename (statements.Line (lines.Cmd (commands.Rename from to))) st a b l i.0 refl (is_word_true b j.0) (rw (name_is a from i.1, name_is b to j.1) refl)
  said_is (statements.Line (lines.Cmd (commands.Document d))) h st = absurd h
  said_is (statements.Line (lines.Cmd (commands.CreateIndex ns def))) (a, text, i, d, l) st =
      said_two context line u verbs.CreateIndex (statements.Line (lines.Cmd (commands.CreateIndex ns def))) st a text l i.0 refl (text_is_some text def d) (rw (name_is a ns i.1, document_is reads text def d) refl)
  said_is (statements.Line (lines.Cmd (commands.DropIndex ns name))) (a, i, w, l) st =
      said_two context line u verbs.DropIndex (statements.Line (lines.Cmd (commands.DropIndex ns name))) st a name l i.0 refl (is_word_true name w) (rw (name_is a ns i.1) refl)
  said_is (statements.Line (lines.Cmd (commands.Txn cs))) h st = absurd h
  said_is (statements.Line lines.Dump) l st = said_bare context line u verbs.Dump (statements.Line lines.Dump) refl l refl refl
  said_is (statements.Line (lines.Copy ns n)) (a, b, i, j, l) st =
      said_two context line u verbs.Copy (statements.Line (lines.Copy ns n)) refl a b l i.0 refl (is_word_true b (number_word b n j)) (rw (number_is 1 1000000 b n j, name_is a ns i.1) refl)
  said_is (statements.Line lines.Mark) l st = said_bare context line u verbs.Mark (statements.Line lines.Mark) refl l refl refl
  said_is (statements.Line (lines.Tail n)) (a, i, l) st =
      said_one context line u verbs.Tail (statements.Line (lines.Tail n)) refl a l (number_word a n i).1 refl (is_word_true a (number_word a n i)) (rw (number_is 1 1000000 a n i) refl)
  said_is statements.Begin l st = said_bare context line u verbs.Begin statements.Begin st l refl refl
  said_is statements.Commit l st = said_bare context line u verbs.Commit statements.Commit st l refl refl
  said_is statements.Abort l st = said_bare context line u verbs.Abort statements.Abort st l refl refl
