-- Lists whose elements a search orders: those below what is sought, it itself at most once, and those above it.
use Rattle.std.specs.Prelude.{slice_index_or, ⊤, ◌≡◌, ℕ, suc, List, [], ◌∷◌, refl, Option, Some, None, is_some, if◌then◌else◌}
use Rattle.std.specs.Coded.{Coded, code_by, coded×, coded_ℕ, coded_list}
use Rattle.std.specs.Ordering.{is_eq, is_lt}
use Rattle.std.specs.declared.cmp.Ordering.{Ordering}
use Rattle.std.specs.declared.cmp.Ordering.TheVariants.{Less, Equal, Greater}

-- elements, how many more may be put in their places, and how many may be pushed behind all others
pub record Shelf (T : Type 0) : Type 0 where
  pub items : List T
  pub room : ℕ
  pub end_room : ℕ

abbrev pub shelf_code : {T : Type 0} → Coded T → Coded (Shelf T)
shelf_code {T} t = code_by (List T × (ℕ × ℕ)) (coded× (coded_list t) (coded× coded_ℕ coded_ℕ)) (λ s. (s.items, (s.room, s.end_room))) (λ p. record { items = p.0; room = p.1.0; end_room = p.1.1 }) (λ _. refl)

module _ {T : Type 0} (ord : T → Ordering) where
  abbrev pub AllAbove : List T → Type 0
  AllAbove [] = ⊤
  AllAbove (x ∷ xs) = (ord x ≡ Greater) × AllAbove xs

  -- behind an element of this order
  abbrev pub Behind : Ordering → List T → Type 0
  Behind Less xs = ⊤
  Behind Equal xs = AllAbove xs
  Behind Greater xs = AllAbove xs

  abbrev pub IsOrdered : List T → Type 0
  IsOrdered [] = ⊤
  IsOrdered (x ∷ xs) = Behind (ord x) xs × IsOrdered xs

  -- what is sought
  abbrev pub found : List T → Option T
  found [] = None
  found (x ∷ xs) = if is_eq (ord x) then Some x else found xs

  -- how many are below it
  abbrev pub place : List T → ℕ
  place [] = 0
  place (x ∷ xs) = if is_lt (ord x) then suc (place xs) else 0

  -- all but those that are below it
  abbrev pub from : List T → List T
  from [] = []
  from (x ∷ xs) = if is_lt (ord x) then from xs else x ∷ xs

  -- with an element in front of the first that isn't below
  abbrev pub put_in : T → List T → List T
  put_in y [] = y ∷ []
  put_in y (x ∷ xs) = if is_lt (ord x) then x ∷ put_in y xs else y ∷ (x ∷ xs)

  -- the same where what is sought isn't there
  abbrev pub put_new : T → List T → List T
  put_new y xs = if is_some (found xs) then xs else put_in y xs

  -- with an element in the place of what is sought
  abbrev pub set_in : T → List T → List T
  set_in y [] = []
  set_in y (x ∷ xs) = if is_eq (ord x) then y ∷ xs else x ∷ set_in y xs

  abbrev pub take_out : List T → List T
  take_out [] = []
  take_out (x ∷ xs) = if is_eq (ord x) then xs else x ∷ take_out xs

  -- what is sought stands at this index
  pub record IsFound (xs : List T) (at : ℕ) : Type 0 where
    pub is_place : place xs ≡ at
    pub is_found : (d : T) → found xs ≡ Some (slice_index_or xs at d)

  -- it isn't there, and would stand at this index
  pub record IsGap (xs : List T) (at : ℕ) : Type 0 where
    pub is_place : place xs ≡ at
    pub is_absent : found xs ≡ None
