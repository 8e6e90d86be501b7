-- Walking elements without their values, and the names of those that were walked.
use Rattle.std.proofs.Common.{Ordering, Less, Equal, Greater, ◌≡◌, ℕ, ◌+◌, ◌<◌, ◌≤◌, Bool, true, false, cond, List, [], ◌∷◌, ◌++◌, length, Result, Ok, Err, refl, sym, ap, subst, ◌∙◌, arith}
use Rattle.std.specs.Prelude.{Some}
use Rattle.std.specs.Cmp.Lexicographic.{slice_cmp}
use Rattle.std.specs.Ordering.{nat_cmp, is_lt, ordering_reverse}
use Rattle.std.proofs.lemmas.Cmp.{nat_list_cmp_total}
use Rattle.std.specs.Str.{is_utf8, bytes_eq}
use Rattle.std.specs.List.{position_from}
use Rattle.std.proofs.lemmas.Slice.Eq.{bytes_eq-Decides}
use Rattle.bson_check.specs.declared.fault.BsonFault.{BsonFault}
use Rattle.bson_check.specs.declared.fault.BsonKind.TheVariants as kinds
use Rattle.bson_check.specs.declared.fault.DecodeFault.TheVariants as errors
use Rattle.bson_value.specs.declared.value.Value.{Value}
use Rattle.containers.specs.Entries.{names_of}
use Rattle.bson_check.specs.Reading.{◌>>=◌, Taken, Reader, fails, rests, void, named, unless_there, item_at}
use Rattle.bson_check.specs.Passing.{first_name, passed, Path, has, Tops, is_above}
use Rattle.bson_check.proofs.Loop.{ItemsLeft, item_goes_on, item_ends, items_done}

-- ---- names on the way

pub path_end : (name : List ℕ) (ns : List (List ℕ)) (rest to : List ℕ) → Path ns rest to → length rest ≤ length to → has name ns ≡ false
path_end name [] rest to p le = refl
path_end name (n ∷ ns) rest to p le = absurd (omega (arith, p.0, le))

pub path_found : (name : List ℕ) (ns : List (List ℕ)) (rest to : List ℕ) → first_name rest ≡ name → length to < length rest → Path ns rest to → has name ns ≡ true
path_found name [] rest to is lt p = absurd (omega (arith, lt, ap length p))
path_found name (n ∷ ns) rest to is lt p = let e : bytes_eq n name ≡ true = (bytes_eq-Decides n name).1 (sym p.1 ∙ is) in rw e refl

pub path_on : (name : List ℕ) (ns : List (List ℕ)) (rest to : List ℕ) → (first_name rest ≡ name → ⊥) → length to < length rest → Path ns rest to
    → (ms : List (List ℕ)) × Path ms (passed rest) to × (has name ns ≡ has name ms)
path_on name [] rest to other lt p = absurd (omega (arith, lt, ap length p))
path_on name (n ∷ ns) rest to differs lt p = (ns, p.2, other (bytes_eq n name) refl) where
  other : (b : Bool) → bytes_eq n name ≡ b → cond b true (has name ns) ≡ has name ns
  other true e = absurd (differs (p.1 ∙ (bytes_eq-Decides n name).0 e))
  other false e = refl

pub path_push : (ns : List (List ℕ)) (n from mid after : List ℕ) → Path ns from mid → length after < length mid → first_name mid ≡ n → passed mid ≡ after → Path (ns ++ n ∷ []) from after
path_push [] n from mid after p lt is next = (subst (λ (l : List ℕ). length after < length l) (sym p) lt, ap first_name p ∙ is, ap passed p ∙ next)
path_push (m ∷ ns) n from mid after p lt is next = (omega (arith, lt, p.0), p.1, path_push ns n (passed from) mid after p.2 lt is next)

pub names_of-push : {A : Type 0} (es : List (List ℕ × A)) (e : List ℕ × A) → names_of (es ++ e ∷ []) ≡ names_of es ++ e.0 ∷ []
names_of-push [] e = refl
names_of-push (x ∷ es) e = ap (λ (ns : List (List ℕ)). x.0 ∷ ns) (names_of-push es e)

-- ---- the top name

has_push : (m n : List ℕ) (ns : List (List ℕ)) → has m ns ≡ false → bytes_eq n m ≡ false → has m (ns ++ n ∷ []) ≡ false
has_push m n [] h e = rw e refl
has_push m n (x ∷ ns) h e = go (bytes_eq x m) h (λ k. has_push m n ns k e) where
  go : (b : Bool) → cond b true (has m ns) ≡ false → (has m ns ≡ false → has m (ns ++ n ∷ []) ≡ false) → cond b true (has m (ns ++ n ∷ [])) ≡ false
  go true h more = absurd cc
  go false h more = more h

not_equal : (m n : List ℕ) (b : Bool) → bytes_eq n m ≡ b → (n ≡ m → ⊥) → bytes_eq n m ≡ false
not_equal m n true e differs = absurd (differs ((bytes_eq-Decides n m).0 e))
not_equal m n false e differs = e

pub less_of : (o : Ordering) → is_lt o ≡ true → o ≡ Less
less_of Less e = refl
less_of Equal e = absurd cc
less_of Greater e = absurd cc

not_above_itself : (n : List ℕ) → is_above n n ≡ true → ⊥
not_above_itself n e =
    let l = less_of (slice_cmp nat_cmp n n) e in
    let a = nat_list_cmp_total.antisymm n n in
    let b : Less ≡ Greater = sym l ∙ a ∙ ap ordering_reverse l in absurd cc

above_trans : (top n m : List ℕ) → is_above n top ≡ true → is_above m n ≡ true → is_above m top ≡ true
above_trans top n m e f = ap is_lt (nat_list_cmp_total.trans top n m (less_of _ e) (less_of _ f))

-- a name above the top is the top from then on
pub rises : (top n : List ℕ) (ns : List (List ℕ)) → is_above n top ≡ true → Tops top ns → Tops n (ns ++ n ∷ [])
rises top n ns e h m f =
    has_push m n ns (h m (above_trans top n m e f)) (not_equal m n (bytes_eq n m) refl (λ p. not_above_itself n (subst (λ (x : List ℕ). is_above x n ≡ true) (sym p) f)))

-- under another one it stays
pub stays_top : (top n : List ℕ) (ns : List (List ℕ)) → is_above n top ≡ false → Tops top ns → Tops top (ns ++ n ∷ [])
stays_top top n ns e h m f =
    has_push m n ns (h m f) (not_equal m n (bytes_eq n m) refl (λ p. let q = subst (λ (x : List ℕ). is_above x top ≡ true) (sym p) f in cc))

-- ---- the test of a name

there_is : {A : Type 0} (at : ℕ) (name : List ℕ) (es : List (List ℕ × A)) (k : ℕ) → unless_there at name (position_from (λ e. bytes_eq e.0 name) k es) ≡ cond (has name (names_of es)) (fails kinds.Repeat at) (Ok name)
there_is at name [] k = refl
there_is at name (e ∷ es) k = go (there_is at name es (k + 1)) (bytes_eq e.0 name) where
  go : unless_there at name (position_from (λ e. bytes_eq e.0 name) (k + 1) es) ≡ cond (has name (names_of es)) (fails kinds.Repeat at) (Ok name) → (b : Bool) → unless_there at name (cond b (Some k) (position_from (λ e. bytes_eq e.0 name) (k + 1) es)) ≡ cond (cond b true (has name (names_of es))) (fails kinds.Repeat at) (Ok name)
  go more true = refl
  go more false = more

pub known_is : (at : ℕ) (name : List ℕ) (done : List (List ℕ × Value)) (b : Bool) → is_utf8 name ≡ true → has name (names_of done) ≡ b → named at done name ≡ cond b (fails kinds.Repeat at) (Ok name)
unfolding named
known_is at name done b utf8 e = rw utf8 (there_is at name done 0 ∙ ap (λ (c : Bool). cond c (fails kinds.Repeat at) (Ok name)) e)

pub not_known : (at : ℕ) (name : List ℕ) (done : List (List ℕ × Value)) → is_utf8 name ≡ false → named at done name ≡ fails kinds.Text at
unfolding named
not_known at name done bad = rw bad refl

-- ---- what is left

pub on_left : {A B : Type 0} (f : A → B) (t : Taken A) → rests (t >>= λ x. Ok (f x.0, x.1)) ≡ rests t
on_left f (Ok x) = refl
on_left f (Err e) = refl

pub left_of : {A : Type 0} (t : Taken A) (after : List ℕ) → rests t ≡ Ok after → (x : A) × (t ≡ Ok (x, after))
left_of (Ok x) after e = (x.0, let p : x.1 ≡ after = cc in rw p refl)
left_of (Err e) after h = absurd cc

pub left_err : {A : Type 0} (t : Taken A) (f : BsonFault) → rests t ≡ Err f → t ≡ Err f
left_err (Ok x) f h = absurd cc
left_err (Err e) f h = let p : e ≡ f = cc in rw p refl

pub void_of : {A : Type 0} (t : Result A BsonFault) → void t ≡ Ok tt → (x : A) × (t ≡ Ok x)
void_of (Ok x) e = (x, refl)
void_of (Err e) h = absurd cc

pub void_err : {A : Type 0} (t : Result A BsonFault) (f : BsonFault) → void t ≡ Err f → t ≡ Err f
void_err (Ok x) f h = absurd cc
void_err (Err e) f h = let p : e ≡ f = cc in rw p refl

-- ---- the loops

-- some items were walked, and reading on from here gives the total
pub record ItemsPassed (read : Reader) (end : ℕ) (rest : List ℕ) (total : Result (List Value) BsonFault) : Type 0 where
  pub done : List Value
  pub left : ItemsLeft read end done rest total

module _ (read : Reader) (end : ℕ) (total : Result (List Value) BsonFault) where
  pub item_passes : (tag : ℕ) (bytes rest after : List ℕ) → rest ≡ tag ∷ bytes → rests (item_at read end tag bytes) ≡ Ok after → length after ≤ length bytes → ItemsPassed read end rest total → ItemsPassed read end after total
  item_passes tag bytes rest after is h le p =
      let x = left_of (item_at read end tag bytes) after h in
      record { done = p.done ++ x.0 ∷ []; left = item_goes_on read end p.done total tag bytes rest x.0 after is x.1 le p.left }

  pub item_fails : (tag : ℕ) (bytes rest : List ℕ) (f : BsonFault) → rest ≡ tag ∷ bytes → rests (item_at read end tag bytes) ≡ Err f → ItemsPassed read end rest total → void total ≡ Err f
  item_fails tag bytes rest f is h p = ap void (item_ends read end p.done total tag bytes rest (errors.Bad f) is (left_err (item_at read end tag bytes) f h) p.left)

  pub items_end : (rest : List ℕ) → rest ≡ [] → ItemsPassed read end rest total → void total ≡ Ok tt
  items_end rest is p = ap void (items_done read end p.done total rest is p.left)
