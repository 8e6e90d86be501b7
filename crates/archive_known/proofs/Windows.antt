-- No entry of the window is a rename.
use Rattle.std.proofs.Common.{◌≡◌, List, [], ◌∷◌, Bool, true, false, refl}
use Rattle.std.specs.Prelude.{◌&&◌, map as each, if◌then◌else◌}
use Rattle.bson_value.specs.declared.value.Ts.{Ts}
use Rattle.coll_state.specs.Rows.{Rows}
use Rattle.coll_state.specs.Changes.{no_rows}
use Rattle.history_model.specs.Entries.{Content, Nothing, One, Group, OplogEntry}
use Rattle.history_model.specs.Entries as entries
use Rattle.history_model.specs.Stages.{Write, Single, Rename, Txn, first_ts, not_later, rows_by, Made, entry_of}
use Rattle.history_model.specs.Runs.{Run, first_entry, entries_from, window}
use Rattle.history_model.specs.Recordings.{IsRecordedBy, AllMade, OfRename}
use Rattle.history_model.specs.Invariants.{NoRename}
use Rattle.dump_content.proofs.Sound.{EachEntry}
use Rattle.replayed_entries.specs.Laws.{IsNoRename}

abbrev pub IsPlain : OplogEntry → Type 0
IsPlain e = IsNoRename e.content

-- what is recorded of a write is a rename only where the write is one
plain_where : (w : Write) (c : Content) (r : Rows) (b : Bool) → IsRecordedBy w c r → OfRename w (b ≡ false) → b ≡ true → IsNoRename c
plain_where (Single w) (One i) r b h g e = tt
plain_where (Single w) Nothing r b h g e = absurd h
plain_where (Single w) (entries.Rename x y) r b h g e = absurd h
plain_where (Single w) (Group is) r b h g e = absurd h
plain_where (Rename x y) c r b h g e = cc
plain_where (Txn ws) (Group is) r b h g e = tt
plain_where (Txn ws) Nothing r b h g e = absurd h
plain_where (Txn ws) (entries.Rename x y) r b h g e = absurd h
plain_where (Txn ws) (One i) r b h g e = absurd h

made_plain : (a b : Ts) (ms : List Made) (r : Rows) → AllMade ms r → NoRename a b ms → EachEntry IsPlain (window a b (each entry_of ms))
made_plain a b [] r h g = tt
made_plain a b (m ∷ ms) r h g = by (not_later a m.ts && not_later m.ts b) refl (made_plain a b ms (rows_by m.write r) h.1 g.1)
  where
    by : (t : Bool) → (not_later a m.ts && not_later m.ts b) ≡ t → EachEntry IsPlain (window a b (each entry_of ms)) → EachEntry IsPlain (if t then entry_of m ∷ window a b (each entry_of ms) else window a b (each entry_of ms))
    by true e rest = (plain_where m.write m.content r (not_later a m.ts && not_later m.ts b) h.0 g.0 e, rest)
    by false e rest = rest

pub window_plain : (a b : Ts) (t : Run) → AllMade t.made no_rows → NoRename a b t.made → EachEntry IsPlain (window a b (entries_from t))
window_plain a b t h g = by (not_later a first_ts && not_later first_ts b)
  where
    rest : EachEntry IsPlain (window a b (each entry_of t.made))
    rest = made_plain a b t.made no_rows h g

    by : (x : Bool) → EachEntry IsPlain (if x then first_entry ∷ window a b (each entry_of t.made) else window a b (each entry_of t.made))
    by true = (tt, rest)
    by false = rest
