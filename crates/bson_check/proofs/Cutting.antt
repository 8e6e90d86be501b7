-- Tools for what was read without a fault, and for lists cut into parts.
use Rattle.std.proofs.Common.{◌≡◌, ℕ, ◌+◌, ◌<◌, ◌≤◌, Bool, true, false, cond, List, [], ◌∷◌, ◌++◌, length, take, drop, get_or, slice_index, Result, Ok, Err, refl, sym, ap, ◌∙◌, append_assoc, arith}
use Rattle.std.specs.Prelude.{◌||◌, ◌⊎◌}
use Rattle.std.proofs.Common.{inl, inr}
use Rattle.std.proofs.lemmas.List.{take_at, drop_at, get_or_at, take-append-drop, drop-drop, drop_more, length-append}
use Rattle.bson_check.specs.declared.fault.BsonFault.{BsonFault}
use Rattle.bson_check.specs.Reading.{◌>>=◌}

-- the value of a step that did not fail
pub bind_ok : {A B : Type 0} (r : Result A BsonFault) (f : A → Result B BsonFault) (y : B) → (r >>= f) ≡ Ok y → (x : A) × (r ≡ Ok x) × (f x ≡ Ok y)
bind_ok (Ok x) f y e = (x, refl, e)
bind_ok (Err d) f y e = absurd cc

-- a test for a fault that did not hold
pub passes : {A : Type 0} (b : Bool) (d : BsonFault) (r : Result A BsonFault) (y : A) → cond b (Err d) r ≡ Ok y → (b ≡ false) × (r ≡ Ok y)
passes true d r y e = absurd cc
passes false d r y e = (refl, e)

-- a test that had to hold
pub holds : {A : Type 0} (b : Bool) (d : BsonFault) (r : Result A BsonFault) (y : A) → cond b r (Err d) ≡ Ok y → (b ≡ true) × (r ≡ Ok y)
holds true d r y e = (refl, e)
holds false d r y e = absurd cc

-- which way a test went
pub chosen : {A : Type 0} (b : Bool) (x y z : A) → cond b x y ≡ z → ((b ≡ true) × (x ≡ z)) ⊎ ((b ≡ false) × (y ≡ z))
chosen true x y z e = inl (refl, e)
chosen false x y z e = inr (refl, e)

pub neither : (a b : Bool) → (a || b) ≡ false → (a ≡ false) × (b ≡ false)
neither true b e = absurd cc
neither false b e = (refl, e)

abbrev pub done : {A : Type 0} → A → Result A BsonFault
done x = Ok x

pub ok_is : {A : Type 0} (x y : A) → done x ≡ done y → x ≡ y
ok_is x y e = cc

-- bytes that begin with four bytes, a body and a zero
pub record Begins (bytes count body rest : List ℕ) : Type 0 where
  pub count_is : take 4 bytes ≡ count
  pub body_is : take (length body) (drop 4 bytes) ≡ body
  pub zero_is : slice_index bytes (length body + 4) ≡ 0
  pub rest_is : drop (length body + 5) bytes ≡ rest
  pub length_is : length bytes ≡ length body + 5 + length rest

pub begins : (count body rest : List ℕ) → length count ≡ 4 → Begins ((count ++ body ++ 0 ∷ []) ++ rest) count body rest
begins count body rest four =
    let bytes = (count ++ body ++ 0 ∷ []) ++ rest in
    let whole : bytes ≡ count ++ (body ++ (0 ∷ rest)) = append_assoc (count ++ body) (0 ∷ []) rest ∙ append_assoc count body (0 ∷ rest) in
    let ahead : bytes ≡ (count ++ body) ++ (0 ∷ rest) = append_assoc (count ++ body) (0 ∷ []) rest in
    let first : length (count ++ body) ≡ length body + 4 = omega (arith, length-append count body, four) in
    let all : length (count ++ body ++ 0 ∷ []) ≡ length body + 5 = omega (arith, length-append (count ++ body) (0 ∷ []), first) in
    record {
      count_is = ap (λ (xs : List ℕ). take 4 xs) whole ∙ take_at count (body ++ (0 ∷ rest)) 4 four;
      body_is = ap (λ (xs : List ℕ). take (length body) (drop 4 xs)) whole ∙ ap (λ (xs : List ℕ). take (length body) xs) (drop_at count (body ++ (0 ∷ rest)) 4 four) ∙ take_at body (0 ∷ rest) (length body) refl;
      zero_is = ap (λ (xs : List ℕ). slice_index xs (length body + 4)) ahead ∙ get_or_at (count ++ body) 0 rest 0 (length body + 4) first;
      rest_is = drop_at (count ++ body ++ 0 ∷ []) rest (length body + 5) all;
      length_is = omega (arith, length-append (count ++ body ++ 0 ∷ []) rest, all);
    }

-- a list at one of its places
pub parts_at : (bytes : List ℕ) (i : ℕ) → i < length bytes → bytes ≡ take i bytes ++ (get_or bytes i 0 ∷ drop (i + 1) bytes)
parts_at bytes i lt = sym (take-append-drop i bytes) ∙ ap (λ (xs : List ℕ). take i bytes ++ xs) (drop_more bytes i 0 lt)

-- the same the other way round
pub splits : (bytes : List ℕ) (k : ℕ) → k + 5 ≤ length bytes → slice_index bytes (k + 4) ≡ 0 → bytes ≡ (take 4 bytes ++ take k (drop 4 bytes) ++ 0 ∷ []) ++ drop (k + 5) bytes
splits bytes k le z =
    let count = take 4 bytes in
    let body = take k (drop 4 bytes) in
    let rest = drop (k + 5) bytes in
    let i : 4 + k ≡ k + 4 = omega arith in
    let j : k + 4 + 1 ≡ k + 5 = omega arith in
    let lt : k + 4 < length bytes = omega arith in
    let behind : drop k (drop 4 bytes) ≡ 0 ∷ rest =
    drop-drop k 4 bytes ∙ ap (λ (n : ℕ). drop n bytes) i ∙ drop_more bytes (k + 4) 0 lt ∙ ap (λ (x : ℕ). x ∷ drop (k + 4 + 1) bytes) z ∙ ap (λ (n : ℕ). 0 ∷ drop n bytes) j in
    let middle : drop 4 bytes ≡ body ++ (0 ∷ rest) = sym (take-append-drop k (drop 4 bytes)) ∙ ap (λ (xs : List ℕ). body ++ xs) behind in
    sym (take-append-drop 4 bytes) ∙ ap (λ (xs : List ℕ). count ++ xs) middle ∙ sym (append_assoc count body (0 ∷ rest)) ∙ sym (append_assoc (count ++ body) (0 ∷ []) rest)
