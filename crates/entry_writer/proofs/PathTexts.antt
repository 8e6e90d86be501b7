-- The parts of a place with dots between them.
use Rattle.std.proofs.Common.{◌≡◌, ℕ, ◌+◌, ◌<◌, List, [], ◌∷◌, ◌++◌, length, take, get_or, sym, ap, ◌∙◌, append_assoc}
use Rattle.std.proofs.lemmas.List.{take_more, append-nil}
use Rattle.doc_path.specs.Touch.{key_of}
use Rattle.doc_path.specs.Paths.{dot}
use Rattle.doc_path.specs.declared.parts.Part.{Part}
use Rattle.entry_model.specs.Written.{path_of}
use Rattle.entry_writer.specs.Levels.{dotted}

path_on : (p : Part) (ps : List Part) → key_of p ++ dotted ps ≡ path_of (p ∷ ps)
path_on p [] = append-nil (key_of p)
path_on p (q ∷ ps) = ap (λ (l : List ℕ). key_of p ++ (dot ∷ l)) (path_on q ps)

pub path_is : (parts ps : List Part) (p : Part) (text : List ℕ) → parts ≡ p ∷ ps → text ≡ ([] ++ key_of p) ++ dotted ps → text ≡ path_of parts
path_is parts ps p text e t = t ∙ (path_on p ps ∙ ap path_of (sym e))

pub dotted_more : (ps : List Part) (i : ℕ) (p : Part) (old now dots new : List ℕ) → i < length ps → p ≡ get_or ps i p → now ≡ old ++ dotted (take i ps) → dots ≡ now ++ dot ∷ [] → new ≡ dots ++ key_of p → new ≡ old ++ dotted (take (i + 1) ps)
dotted_more ps i p old now dots new lt e inv d n =
    let more : take (i + 1) ps ≡ take i ps ++ p ∷ [] = take_more ps i p lt ∙ ap (λ (y : Part). take i ps ++ y ∷ []) (sym e) in
    n ∙ (ap (λ (l : List ℕ). l ++ key_of p) (d ∙ ap (λ (l : List ℕ). l ++ dot ∷ []) inv)
    ∙ (append_assoc (old ++ dotted (take i ps)) (dot ∷ []) (key_of p)
    ∙ (append_assoc old (dotted (take i ps)) (dot ∷ key_of p)
    ∙ ap (λ (l : List ℕ). old ++ l) (sym (ended (take i ps)) ∙ ap dotted (sym more)))))
  where
    ended : (qs : List Part) → dotted (qs ++ p ∷ []) ≡ dotted qs ++ (dot ∷ key_of p)
    ended [] = ap (λ (l : List ℕ). dot ∷ l) (append-nil (key_of p))
    ended (q ∷ qs) = ap (λ (l : List ℕ). dot ∷ l) (ap (λ (l : List ℕ). key_of q ++ l) (ended qs) ∙ sym (append_assoc (key_of q) (dotted qs) (dot ∷ key_of p)))
