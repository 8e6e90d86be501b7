-- Which places each move covers: those that it may change, and with a place all that is below it.
use Rattle.std.specs.Prelude.{◌≡◌, List, [], ◌∷◌, ◌++◌, Bool, true, false, ◌&&◌, ◌||◌}
use Rattle.bson_value.specs.declared.namespace.NsName.{NsName}
use Rattle.bson_value.specs.Place.{Place}
use Rattle.doc_path.specs.Touch.{covers}
use Rattle.state_model.specs.Keys.{Key, same_key, same_ns}
use Rattle.state_model.specs.Spots.{Inner, Options, Index, Document, Spot, Namespace, Inside}
use Rattle.state_model.specs.Moves.{Move, Put, Remove, Whole, Delta, Create, DropColl, DropDb, AddIndex, DropIndex}

-- places of one document
abbrev pub document_covers : Key → (Place → Bool) → Inner → Bool
document_covers i c Options = false
document_covers i c (Index j) = false
document_covers i c (Document j q) = same_key j i && c q

abbrev pub index_covers : Key → Inner → Bool
index_covers i Options = false
index_covers i (Index j) = same_key j i
index_covers i (Document j q) = false

abbrev pub all_of : Place → Bool
all_of q = true

-- all but whether the document is there
abbrev pub all_below : Place → Bool
all_below [] = false
all_below (k ∷ q) = true

-- places in one collection, not whether it is there
abbrev pub inside : NsName → (Inner → Bool) → Spot → Bool
inside n c (Namespace m) = false
inside n c (Inside m p) = same_ns m n && c p

-- whole collections
abbrev pub spaces : (NsName → Bool) → Spot → Bool
spaces f (Namespace m) = f m
spaces f (Inside m p) = f m

abbrev pub move_covers : Move → Spot → Bool
move_covers (Put n i d) = inside n (document_covers i all_of)
move_covers (Remove n i) = inside n (document_covers i all_of)
move_covers (Whole n i d) = inside n (document_covers i all_below)
move_covers (Delta n i f t) = inside n (document_covers i (covers t))
move_covers (Create n o) = spaces (λ m. same_ns m n)
move_covers (DropColl n) = spaces (λ m. same_ns m n)
move_covers (DropDb d) = spaces (λ m. same_key m.db d)
move_covers (AddIndex n i d) = inside n (index_covers i)
move_covers (DropIndex n i) = inside n (index_covers i)

-- whether one of the moves covers a place
abbrev pub any_move_covers : List Move → Spot → Bool
any_move_covers [] p = false
any_move_covers (m ∷ ms) p = move_covers m p || any_move_covers ms p

-- where it says yes of a place of a document, it says yes of all below
abbrev pub HereditaryInside : (Inner → Bool) → Type 0
HereditaryInside c = (i : Key) (q r : Place) → c (Document i (q ++ r)) ≡ false → c (Document i q) ≡ false

-- the same of collections too
pub record HereditarySpots (c : Spot → Bool) : Type 0 where
  pub space : (n : NsName) (p : Inner) → c (Inside n p) ≡ false → c (Namespace n) ≡ false
  pub documents : (n : NsName) → HereditaryInside (λ p. c (Inside n p))
