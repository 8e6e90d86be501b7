-- Changes that were made ready, and the room that there is for them.
use Rattle.std.specs.Prelude.{⊤, ◌≡◌, ℕ, ◌+◌, ◌≤◌, List, [], ◌∷◌, map, Option, Some, None, if◌then◌else◌}
use Rattle.bson_value.specs.declared.namespace.NsName.{NsName}
use Rattle.state_model.specs.Keys.{same_ns}
use Rattle.coll_state.specs.declared.change.Change.{Change}
use Rattle.coll_state.specs.declared.prepared_change.PreparedChange.{PreparedChange}
use Rattle.coll_state.specs.Stock.{Stock}
use Rattle.coll_state.specs.Tables.{Stocks, stock_at}

abbrev pub change_of : PreparedChange → Change
change_of p = record { ns = p.ns; id = p.id; doc = p.document }

abbrev pub changes_of : List PreparedChange → List Change
changes_of ps = map change_of ps

-- the collection has room for so many documents; for none also where it isn't there
abbrev pub HasRoom : ℕ → Option Stock → Type 0
HasRoom n None = n ≡ 0
HasRoom n (Some s) = n ≤ s.room

-- one where both are the same collection
abbrev pub one_of : NsName → NsName → ℕ
one_of k q = if same_ns k q then 1 else 0

-- how many changes are of a collection
abbrev pub changes_in : NsName → List PreparedChange → ℕ
changes_in q [] = 0
changes_in q (p ∷ ps) = one_of p.ns q + changes_in q ps

-- each collection has room for the changes of it
abbrev pub RoomFor : List PreparedChange → Stocks → Type 0
RoomFor ps m = (q : NsName) → HasRoom (changes_in q ps) (stock_at m q)

-- so much more room, where the collection is there
abbrev pub Gains : ℕ → Option Stock → Option Stock → Type 0
Gains n None None = n ≡ 0
Gains n (Some s) (Some t) = s.room + n ≤ t.room
Gains n None (Some t) = ⊥
Gains n (Some s) None = ⊥

-- so much less room at most
abbrev pub Loses : ℕ → Option Stock → Option Stock → Type 0
Loses n None None = ⊤
Loses n (Some s) (Some t) = s.room ≤ t.room + n
Loses n None (Some t) = ⊥
Loses n (Some s) None = ⊥

-- one collection has room for another document, and no other has less
abbrev pub AllGain : NsName → Stocks → Stocks → Type 0
AllGain k m n = (q : NsName) → Gains (one_of k q) (stock_at m q) (stock_at n q)

-- one collection has room for one document less at most, and no other has less
abbrev pub AllLose : NsName → Stocks → Stocks → Type 0
AllLose k m n = (q : NsName) → Loses (one_of k q) (stock_at m q) (stock_at n q)
