-- The takings of the pieces of a step.
use Rattle.std.proofs.Common.{◌≡◌, ℕ, List, [], ◌∷◌, ◌++◌, Bool, true, false, refl, sym, ap, ◌∙◌, append_assoc, append-nil}
use Rattle.std.specs.Prelude.{map as each}
use Rattle.bson_value.specs.declared.namespace.NsName.{NsName}
use Rattle.archive_format.specs.Archive.{Taking, doc, end}
use Rattle.archive_content.specs.Pieces.{Piece, takings_of, all_takings}
use Rattle.dump_model.specs.Archives.{block_of, end_of}

takings_join : (ps qs : List Piece) → all_takings (ps ++ qs) ≡ all_takings ps ++ all_takings qs
takings_join [] qs = refl
takings_join (p ∷ ps) qs = ap (λ (l : List Taking). takings_of p ++ l) (takings_join ps qs) ∙ sym (append_assoc (takings_of p) (all_takings ps) (all_takings qs))

abbrev pub docs : NsName → List (List ℕ) → List Taking
docs n bs = each (λ (b : List ℕ). doc n b) bs

abbrev pub ends : NsName → Bool → List Taking
ends n true = end n ∷ []
ends n false = []

of_block : (n : NsName) (bs : List (List ℕ)) → all_takings (block_of n bs) ≡ docs n bs
of_block n [] = refl
of_block n (b ∷ bs) = append-nil (docs n (b ∷ bs))

of_end : (n : NsName) (b : Bool) → all_takings (end_of n b) ≡ ends n b
of_end n true = refl
of_end n false = refl

pub step_takings : (n : NsName) (bs : List (List ℕ)) (b : Bool) (ps : List Piece) → all_takings ((block_of n bs ++ end_of n b) ++ ps) ≡ docs n bs ++ (ends n b ++ all_takings ps)
step_takings n bs b ps =
    takings_join (block_of n bs ++ end_of n b) ps
    ∙ (ap (λ (l : List Taking). l ++ all_takings ps) (takings_join (block_of n bs) (end_of n b) ∙ (λ i. of_block n bs i ++ of_end n b i))
    ∙ append_assoc (docs n bs) (ends n b) (all_takings ps))
