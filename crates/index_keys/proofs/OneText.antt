-- Keys of one text are one key.
use Rattle.std.proofs.Common.{◌≡◌, ℕ, ◌<◌, List, [], ◌∷◌, length, map, refl, sym, ap, ◌∙◌, subst, arith}
use Rattle.std.specs.Str.{is_utf8, chars}
use Rattle.std.specs.Prelude.{◌^◌}
use Rattle.bson_value.specs.declared.value.Value.{Value, Value-F, out-Value, Array}
use Rattle.bson_value.specs.declared.value.Value.TheVariants.{outs-Array}
use Rattle.bson_value.specs.Spelling.{document_text}
use Rattle.bson_value.specs.WellFormed.{IsName}
use Rattle.bson_check.specs.Spells.{Spells}
use Rattle.bson_check.proofs.Whole.{spelled_once}
use Rattle.bson_value.specs.WellFormed.{IsWellFormedDocument, AreWellFormedItems}
use Rattle.bson_value.proofs.WellFormed.{formed_array}
use Rattle.bson_encode.proofs.Grammar.{spelling_spells}
use Rattle.index_keys.specs.Keys.{Cell, EmptyArray, Of, Key}
use Rattle.index_keys.specs.Texts.{cell_value, key_text, OneText}
use Rattle.index_keys.proofs.FormedKeys.{IsKeyFormed, IsCellFormed, formed_key}

-- documents of one spelling are one document
one_spelling : (fs gs : List (List ℕ × Value)) → IsWellFormedDocument fs → IsWellFormedDocument gs → length (document_text fs) < 2 ^ 31 → document_text fs ≡ document_text gs → fs ≡ gs
one_spelling fs gs kf kg small e =
    spelled_once (document_text fs) fs gs (spelling_spells fs kf small)
    (subst (λ (b : List ℕ). Spells b gs) (sym e) (spelling_spells gs kg (subst (λ (b : List ℕ). length b < 2 ^ 31) e small)))

pub no_name : IsName []
unfolding is_utf8 chars
no_name = record { utf8 = refl; no_zero = λ c. let lt = c.1 in absurd (omega arith) }

formed_cell : (c : Cell) → IsCellFormed c → AreWellFormedItems (cell_value c ∷ [])
formed_cell EmptyArray h = (formed_array [] tt, tt)
formed_cell (Of v) h = (formed_array (v ∷ []) (h, tt), tt)

formed_cells : (k : Key) → IsKeyFormed k → AreWellFormedItems (map cell_value k)
formed_cells [] h = tt
formed_cells (c ∷ k) h = ((formed_cell c h.0).0, formed_cells k h.1)

abbrev fields : Key → List (List ℕ × Value)
fields k = ([], Array (map cell_value k)) ∷ []

formed_fields : (k : Key) → IsKeyFormed k → IsWellFormedDocument (fields k)
formed_fields k h = (((tt, tt), (no_name, tt)), (formed_array _ (formed_cells k h), tt))

abbrev items : Value-F Value → List Value
items (Value-F.Array vs) = vs
items _ = []

items_are : (vs : List Value) → items (out-Value (Array vs)) ≡ vs
items_are vs = ap items (outs-Array vs)

same_items : (vs ws : List Value) → Array vs ≡ Array ws → vs ≡ ws
same_items vs ws e = sym (items_are vs) ∙ (ap (λ (v : Value). items (out-Value v)) e ∙ items_are ws)

-- the cell that a value stands for
abbrev told : List Value → Cell
told [] = EmptyArray
told (v ∷ vs) = Of v

tells : (c : Cell) → told (items (out-Value (cell_value c))) ≡ c
tells EmptyArray = ap told (items_are [])
tells (Of v) = ap told (items_are (v ∷ []))

tells_all : (k : Key) → map (λ v. told (items (out-Value v))) (map cell_value k) ≡ k
tells_all [] = refl
tells_all (c ∷ k) = λ i. tells c i ∷ tells_all k i

abbrev first : List (List ℕ × Value) → Value
first [] = Array []
first (e ∷ es) = e.1

pub one_key : (k l : Key) → IsKeyFormed k → IsKeyFormed l → length (key_text k) < 2 ^ 31 → key_text k ≡ key_text l → k ≡ l
unfolding key_text
one_key k l kk kl small e =
    let f : fields k ≡ fields l = one_spelling (fields k) (fields l) (formed_fields k kk) (formed_fields l kl) small e in
    let v : map cell_value k ≡ map cell_value l = same_items _ _ (ap first f) in
    sym (tells_all k) ∙ (ap (map (λ v. told (items (out-Value v)))) v ∙ tells_all l)

pub one_text : OneText
one_text plan a b k l ka kb ik il small e = one_key k l (formed_key plan a ka k ik) (formed_key plan b kb l il) small e
