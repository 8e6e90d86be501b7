-- The text of pieces behind others, and the sums of namespaces behind them.
use Rattle.std.proofs.Common.{◌≡◌, ℕ, List, [], ◌∷◌, ◌++◌, Bool, true, false, cond, refl, sym, ap, ◌∙◌, append_assoc, append-nil}
use Rattle.bson_value.specs.declared.namespace.NsName.{NsName}
use Rattle.archive_format.specs.Crc.{crc_start, crc_on}
use Rattle.archive_format.specs.Archive.{same_ns}
use Rattle.archive_format.specs.Written.{joined, block_text, end_text}
use Rattle.archive_content.specs.Pieces.{Piece, documents_in, sum_on, sum_of, piece_text, pieces_text}
use Rattle.archive_content.proofs.Seats.{ns_refl}
use Rattle.dump_model.specs.Archives.{block_of, end_of}
use Rattle.dump_copies.specs.Writing.{end_if}

pub text_join : (before ps qs : List Piece) → pieces_text before (ps ++ qs) ≡ pieces_text before ps ++ pieces_text (before ++ ps) qs
text_join before [] qs = ap (λ (z : List Piece). pieces_text z qs) (sym (append-nil before))
text_join before (p ∷ ps) qs =
    ap (λ (z : List ℕ). piece_text before p ++ z) (text_join (before ++ (p ∷ [])) ps qs)
    ∙ (sym (append_assoc (piece_text before p) (pieces_text (before ++ (p ∷ [])) ps) (pieces_text ((before ++ (p ∷ [])) ++ ps) qs))
    ∙ ap (λ (z : List Piece). pieces_text before (p ∷ ps) ++ pieces_text z qs) (append_assoc before (p ∷ []) ps))

sum_join : (n : NsName) (r : ℕ) (ps qs : List Piece) → sum_on n r (ps ++ qs) ≡ sum_on n (sum_on n r ps) qs
sum_join n r [] qs = refl
sum_join n r (p ∷ ps) qs = sum_join n (crc_on r (joined (documents_in n p))) ps qs

sum_block : (n : NsName) (r : ℕ) (ds : List (List ℕ)) → sum_on n r (block_of n ds) ≡ crc_on r (joined ds)
sum_block n r [] = refl
sum_block n r (d ∷ ds) = ap (λ (b : Bool). crc_on r (joined (cond b (d ∷ ds) []))) (ns_refl n)

sum_end : (m n : NsName) (r : ℕ) (b : Bool) → sum_on m r (end_of n b) ≡ r
sum_end m n r true = refl
sum_end m n r false = refl

sum_other : (m n : NsName) (r : ℕ) (ds : List (List ℕ)) → same_ns n m ≡ false → sum_on m r (block_of n ds) ≡ r
sum_other m n r [] e = refl
sum_other m n r (d ∷ ds) e = ap (λ (b : Bool). crc_on r (joined (cond b (d ∷ ds) []))) e

-- the sum of the namespace, and that of another one
pub sum_here : (n : NsName) (before : List Piece) (ds : List (List ℕ)) (b : Bool) → sum_of n (before ++ (block_of n ds ++ end_of n b)) ≡ crc_on (sum_of n before) (joined ds)
sum_here n before ds b =
    sum_join n crc_start before (block_of n ds ++ end_of n b)
    ∙ (sum_join n (sum_of n before) (block_of n ds) (end_of n b)
    ∙ (sum_end n n (sum_on n (sum_of n before) (block_of n ds)) b ∙ sum_block n (sum_of n before) ds))

pub sum_else : (m n : NsName) (before : List Piece) (ds : List (List ℕ)) (b : Bool) → same_ns n m ≡ false → sum_of m (before ++ (block_of n ds ++ end_of n b)) ≡ sum_of m before
sum_else m n before ds b e =
    sum_join m crc_start before (block_of n ds ++ end_of n b)
    ∙ (sum_join m (sum_of m before) (block_of n ds) (end_of n b)
    ∙ (sum_end m n (sum_on m (sum_of m before) (block_of n ds)) b ∙ sum_other m n (sum_of m before) ds e))

block_part : (n : NsName) (before : List Piece) (ds : List (List ℕ)) → pieces_text before (block_of n ds) ≡ block_text n ds
block_part n before [] = refl
block_part n before (d ∷ ds) = append-nil (block_text n (d ∷ ds))

end_part : (n : NsName) (before : List Piece) (b : Bool) → pieces_text before (end_of n b) ≡ end_if b n (sum_of n before)
end_part n before true = append-nil (end_text n (sum_of n before))
end_part n before false = refl

-- the text of documents, and of the end behind them
pub text_of_step : (n : NsName) (before : List Piece) (ds : List (List ℕ)) (b : Bool) → pieces_text before (block_of n ds ++ end_of n b) ≡ block_text n ds ++ end_if b n (crc_on (sum_of n before) (joined ds))
text_of_step n before ds b =
    text_join before (block_of n ds) (end_of n b)
    ∙ (λ i. block_part n before ds i ++ end_part n (before ++ block_of n ds) b i)
    ∙ ap (λ (s : ℕ). block_text n ds ++ end_if b n s) (sum_join n crc_start before (block_of n ds) ∙ sum_block n (sum_of n before) ds)
