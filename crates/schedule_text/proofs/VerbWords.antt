-- The words of a line, both ways.
use Rattle.std.proofs.Common.{◌≡◌, ℕ, ◌<◌, ◌≤◌, Bool, true, false, cond, List, [], ◌∷◌, ◌++◌, length, refl, sym, ap, ◌∙◌, arith, inl, inr, length-append, subst}
use Rattle.std.specs.Prelude.{nat_lt, Option, Some, None, codes, Result, Ok, Err}
use Rattle.std.specs.List.{position_or_len, AllByRecursion}
use Rattle.std.specs.Str.{bytes_eq}
use Rattle.std.proofs.lemmas.Bool.{cases_Bool}
use Rattle.std.proofs.lemmas.Bool.Decides.{nat_tests}
use Rattle.std.proofs.lemmas.Slice.Eq.{bytes_eq-Decides}
use Rattle.containers.specs.Entries.{lookup}
use Rattle.doc_path.specs.declared.parts.Form.{Form}
use Rattle.doc_path.specs.declared.parts.Form.TheVariants as forms
use Rattle.schedule_text.specs.declared.fault.LineKind.{LineKind}
use Rattle.schedule_text.specs.declared.fault.LineKind.TheVariants as kinds
use Rattle.schedule_text.specs.declared.verb.Verb.{Verb}
use Rattle.schedule_text.specs.declared.verb.Verb.TheVariants as verbs
use Rattle.schedule_text.specs.declared.verb.Context.{Context}
use Rattle.schedule_text.specs.Words.{verb_names, verb_of, form_of, is_space, cut, cut_operand, operands_of, lacks, takes, may_stand, Words, placed, known, words_of}
use Rattle.schedule_text.specs.Grammar.{one, two}
use Rattle.schedule_text.proofs.Cuts.{first_of, before_is, after_is, first_none, none_first, lacks_before, sides}

-- ---- cutting at the first space

pub cut_at : (w rest : List ℕ) → lacks 32 w ≡ true → cut (w ++ 32 ∷ rest) ≡ (w, Some rest)
cut_at w rest e =
    let place = first_of 32 w rest e in
    let within : nat_lt (position_or_len is_space (w ++ 32 ∷ rest)) (length (w ++ 32 ∷ rest)) ≡ true =
    let l : length w < length (w ++ 32 ∷ rest) = omega (arith, length-append w (32 ∷ rest)) in rw place (grind (arith, nat_tests)) in
    rw (within, before_is 32 w rest e, after_is 32 w rest e) refl

pub cut_none : (w : List ℕ) → lacks 32 w ≡ true → cut w ≡ (w, None)
cut_none w e =
    let without : nat_lt (position_or_len is_space w) (length w) ≡ false = rw (first_none 32 w e) (grind (arith, nat_tests)) in
    rw without refl

-- what a text is that is cut so
abbrev pub IsCut : List ℕ → List ℕ × Option (List ℕ) → Type 0
IsCut text (w, None) = (text ≡ w) × (lacks 32 w ≡ true)
IsCut text (w, Some rest) = (text ≡ w ++ 32 ∷ rest) × (lacks 32 w ≡ true)

pub is_cut : (text : List ℕ) → IsCut text (cut text)
is_cut text =
    elim (cases_Bool (nat_lt (position_or_len is_space text) (length text))) [
      | inl t ↦ let h : position_or_len is_space text < length text = grind (arith, nat_tests) in rw t (sides 32 text h, lacks_before 32 text)
      | inr f ↦ let h : length text ≤ position_or_len is_space text = grind (arith, nat_tests) in rw f (refl, none_first 32 text h)
    ]

-- ---- lines of no, one and two operands

pub words_bare : (context : Context) (w : List ℕ) (verb : Verb) → verb_of w ≡ Some verb → lacks 32 w ≡ true → words_of context w ≡ placed context verb []
unfolding words_of
words_bare context w verb v e = rw (cut_none w e, v) refl

pub words_one : (context : Context) (w a : List ℕ) (verb : Verb) → verb_of w ≡ Some verb → lacks 32 w ≡ true → lacks 32 a ≡ true → words_of context (one w a) ≡ placed context verb (a ∷ [])
unfolding words_of
words_one context w a verb v e f = rw (cut_at w a e, v, cut_none a f) refl

pub words_two : (context : Context) (w a b : List ℕ) (verb : Verb) → verb_of w ≡ Some verb → lacks 32 w ≡ true → lacks 32 a ≡ true → words_of context (two w a b) ≡ placed context verb (a ∷ b ∷ [])
unfolding words_of
words_two context w a b verb v e f = rw (cut_at w (a ++ 32 ∷ b) e, v, cut_at a b f) refl

-- ---- the names of verbs

abbrev pub verb_name : Verb → List ℕ
verb_name verbs.Oplog = codes "oplog"
verb_name verbs.Record = codes "record"
verb_name verbs.At = codes "at"
verb_name verbs.Create = codes "create"
verb_name verbs.DropColl = codes "drop"
verb_name verbs.DropDatabase = codes "dropDatabase"
verb_name verbs.Rename = codes "rename"
verb_name verbs.Insert = codes "insert"
verb_name verbs.Replace = codes "replace"
verb_name verbs.Update = codes "update"
verb_name verbs.Delete = codes "delete"
verb_name verbs.CreateIndex = codes "createIndex"
verb_name verbs.DropIndex = codes "dropIndex"
verb_name verbs.Dump = codes "dump"
verb_name verbs.Copy = codes "copy"
verb_name verbs.Mark = codes "mark"
verb_name verbs.Tail = codes "tail"
verb_name verbs.Begin = codes "begin"
verb_name verbs.Commit = codes "commit"
verb_name verbs.Abort = codes "abort"

module _ {A : Type 0} (P : List ℕ → A → Type 0) where
  is_entry : (es : List (List ℕ × A)) (w : List ℕ) (x : A) → AllByRecursion (λ e. P e.0 e.1) es → lookup w es ≡ Some x → P w x
  is_entry [] w x all h = absurd cc
  is_entry (e ∷ es) w x all h =
      elim (cases_Bool (bytes_eq e.0 w)) [
        | inl t ↦
            let same : e.0 ≡ w = (bytes_eq-Decides e.0 w).0 t in
            let g = rw t at h in
            let y : e.1 ≡ x = cc in
            subst (λ (v : A). P w v) y (subst (λ (v : List ℕ). P v e.1) same all.0)
        | inr f ↦ is_entry es w x all.1 (rw f at h)
      ]

pub is_verb_name : (w : List ℕ) (verb : Verb) → verb_of w ≡ Some verb → w ≡ verb_name verb
unfolding verb_of verb_names
is_verb_name w verb h = is_entry (λ v x. v ≡ verb_name x) verb_names w verb (refl, (refl, (refl, (refl, (refl, (refl, (refl, (refl, (refl, (refl, (refl, (refl, (refl, (refl, (refl, (refl, (refl, (refl, (refl, (refl, (tt))))))))))))))))))))) h

abbrev pub form_name : Form → List ℕ
form_name forms.V1 = codes "v1"
form_name forms.V2 = codes "v2"

pub is_form_name : (w : List ℕ) (form : Form) → form_of w ≡ Some form → w ≡ form_name form
unfolding form_of
is_form_name w form h = is_entry (λ v x. v ≡ form_name x) ((codes "v1", forms.V1) ∷ (codes "v2", forms.V2) ∷ []) w form (refl, (refl, tt)) h

pub named_verb : (verb : Verb) → verb_of (verb_name verb) ≡ Some verb
unfolding verb_of verb_names
named_verb verbs.Oplog = refl
named_verb verbs.Record = refl
named_verb verbs.At = refl
named_verb verbs.Create = refl
named_verb verbs.DropColl = refl
named_verb verbs.DropDatabase = refl
named_verb verbs.Rename = refl
named_verb verbs.Insert = refl
named_verb verbs.Replace = refl
named_verb verbs.Update = refl
named_verb verbs.Delete = refl
named_verb verbs.CreateIndex = refl
named_verb verbs.DropIndex = refl
named_verb verbs.Dump = refl
named_verb verbs.Copy = refl
named_verb verbs.Mark = refl
named_verb verbs.Tail = refl
named_verb verbs.Begin = refl
named_verb verbs.Commit = refl
named_verb verbs.Abort = refl

pub name_is_word : (verb : Verb) → lacks 32 (verb_name verb) ≡ true
name_is_word verbs.Oplog = refl
name_is_word verbs.Record = refl
name_is_word verbs.At = refl
name_is_word verbs.Create = refl
name_is_word verbs.DropColl = refl
name_is_word verbs.DropDatabase = refl
name_is_word verbs.Rename = refl
name_is_word verbs.Insert = refl
name_is_word verbs.Replace = refl
name_is_word verbs.Update = refl
name_is_word verbs.Delete = refl
name_is_word verbs.CreateIndex = refl
name_is_word verbs.DropIndex = refl
name_is_word verbs.Dump = refl
name_is_word verbs.Copy = refl
name_is_word verbs.Mark = refl
name_is_word verbs.Tail = refl
name_is_word verbs.Begin = refl
name_is_word verbs.Commit = refl
name_is_word verbs.Abort = refl

-- ---- what was read

abbrev pub IsSpelled : List ℕ → Verb → List (List ℕ) → Type 0
IsSpelled line verb [] = line ≡ verb_name verb
IsSpelled line verb (a ∷ []) = line ≡ one (verb_name verb) a
IsSpelled line verb (a ∷ b ∷ rest) = line ≡ two (verb_name verb) a b

-- a line of these words that may stand there
pub record AreWords (context : Context) (line : List ℕ) (verb : Verb) (operands : List (List ℕ)) : Type 0 where
  pub taken : takes verb operands ≡ true
  pub stands : may_stand verb context ≡ true
  pub spelled : IsSpelled line verb operands

record IsKnown (context : Context) (verb : Verb) (operands : List (List ℕ)) (v : Option Verb) (xs : List (List ℕ)) : Type 0 where
  pub named : v ≡ Some verb
  pub same : xs ≡ operands
  pub taken : takes verb operands ≡ true
  pub stands : may_stand verb context ≡ true

placed_is : (context : Context) (verb : Verb) (operands : List (List ℕ)) (v : Verb) (xs : List (List ℕ)) (t u : Bool) → takes v xs ≡ t → may_stand v context ≡ u
    → cond {A = Result Words LineKind} t (cond {A = Result Words LineKind} u (Ok (v, xs)) (Err kinds.Place)) (Err kinds.Words) ≡ Ok (verb, operands) → IsKnown context verb operands (Some v) xs
placed_is context verb operands v xs true true t u e =
    let both : ◌≡◌ {A = Words} (v, xs) (verb, operands) = cc in
    let p : v ≡ verb = ap (λ (x : Words). x.0) both in
    let q : xs ≡ operands = ap (λ (x : Words). x.1) both in
    record { named = ap Some p; same = q; taken = sym (ap (λ (w : Verb). takes w operands) p) ∙ (sym (ap (λ (l : List (List ℕ)). takes v l) q) ∙ t); stands = sym (ap (λ (w : Verb). may_stand w context) p) ∙ u }
placed_is context verb operands v xs true false t u e = absurd cc
placed_is context verb operands v xs false u t s e = absurd cc

known_is : (context : Context) (verb : Verb) (operands : List (List ℕ)) (v : Option Verb) (xs : List (List ℕ)) → known context v xs ≡ Ok (verb, operands) → IsKnown context verb operands v xs
known_is context verb operands None xs e = absurd cc
known_is context verb operands (Some v) xs e = placed_is context verb operands v xs (takes v xs) (may_stand v context) refl refl e

spelled_one : (context : Context) (line : List ℕ) (verb : Verb) (operands : List (List ℕ)) (w rest : List ℕ) (q : List ℕ × Option (List ℕ)) → line ≡ w ++ 32 ∷ rest → IsCut rest q
    → w ≡ verb_name verb → cut_operand q ≡ operands → IsSpelled line verb operands
spelled_one context line verb operands w rest (a, None) l r n o = subst (λ (x : List (List ℕ)). IsSpelled line verb x) o (rw (l, r.0, n) refl)
spelled_one context line verb operands w rest (a, Some b) l r n o = subst (λ (x : List (List ℕ)). IsSpelled line verb x) o (rw (l, r.0, n) refl)

spelled : (context : Context) (line : List ℕ) (verb : Verb) (operands : List (List ℕ)) (p : List ℕ × Option (List ℕ)) → IsCut line p
    → p.0 ≡ verb_name verb → operands_of p.1 ≡ operands → IsSpelled line verb operands
spelled context line verb operands (w, None) c n o = subst (λ (x : List (List ℕ)). IsSpelled line verb x) o (c.0 ∙ n)
spelled context line verb operands (w, Some rest) c n o = spelled_one context line verb operands w rest (cut rest) c.0 (is_cut rest) n o

pub are_words : (context : Context) (line : List ℕ) (verb : Verb) (operands : List (List ℕ)) → words_of context line ≡ Ok (verb, operands) → AreWords context line verb operands
unfolding words_of
are_words context line verb operands e =
    let k = known_is context verb operands (verb_of (cut line).0) (operands_of (cut line).1) e in
    record { taken = k.taken; stands = k.stands; spelled = spelled context line verb operands (cut line) (is_cut line) (is_verb_name (cut line).0 verb k.named) k.same }
