-- Spellings within the limits of documents that are kept as their spelling.
use Rattle.std.proofs.Common.{◌≡◌, ℕ, ◌≤◌, Bool, true, false, List, length, subst}
use Rattle.std.specs.Prelude.{◌&&◌, nat_le}
use Rattle.std.proofs.lemmas.Bool.{le-leb}
use Rattle.bson_value.specs.declared.value.Value.{Value}
use Rattle.bson_value.specs.Levels.{levels_of}
use Rattle.bson_value.specs.Spelling.{document_text}
use Rattle.coll_state.specs.Kept.{is_short}
use Rattle.spliced_documents.specs.Splicing.{IsShortSpelling}

both : (a b : Bool) → a ≡ true → b ≡ true → (a && b) ≡ true
both true b e f = f
both false b e f = e

pub is_kept : (bytes : List ℕ) (d : List (List ℕ × Value)) → IsShortSpelling bytes d → is_short d ≡ true
is_kept bytes d s =
    let size : length (document_text d) ≤ 16777216 = subst (λ (z : List ℕ). length z ≤ 16777216) s.text s.size in
    both (nat_le (length (document_text d)) 16777216) (nat_le (levels_of d) 100) (le-leb (length (document_text d)) 16777216 size) (le-leb (levels_of d) 100 s.levels)
