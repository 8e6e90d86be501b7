-- Reading one item, or one member, after the other.
use Rattle.std.proofs.Common.{◌≡◌, ℕ, suc, Bool, true, false, cond, eqb, take, ◌+◌, ◌<◌, ◌≤◌, List, [], ◌∷◌, ◌++◌, length, drop, get_or, Ok, Err, refl, sym, ap, ◌∙◌, append_assoc, arith}
use Rattle.std.specs.Prelude.{map}
use Rattle.std.proofs.Math.Seq.{drop-cons}
use Rattle.std.proofs.lemmas.List.{drop_all, append-nil, take_more}
use Rattle.std.specs.List.{list_any}
use Rattle.containers.specs.Entries.{names_of}
use Rattle.json_tree.specs.declared.tree.Tree.{Tree}
use Rattle.bson_value.specs.declared.value.Value.{Value}
use Rattle.extjson.specs.declared.fault.ExtFault.{ExtFault}
use Rattle.extjson.specs.declared.fault.ExtFault.TheVariants as faults
use Rattle.extjson.specs.declared.fault.ExtFault.TheVariants.{BadWrapper}
use Rattle.extjson.specs.Values.{Read, ◌>>=◌, Fails, value_of, parts_of, items_value, fields_value, without_zero}
use Rattle.json_tree.proofs.Names.{names_of-push}

-- what is done, and then what is read
abbrev pub behind : {A : Type 0} → List A → Read (List A) → Read (List A)
behind done r = r >>= λ rest. Ok (done ++ rest)

none_done : {A : Type 0} (r : Read (List A)) → r ≡ behind [] r
none_done (Ok x) = refl
none_done (Err e) = refl

one_done : {A : Type 0} (done : List A) (x : A) (r : Read (List A)) → behind done (r >>= λ rest. Ok (x ∷ rest)) ≡ behind (done ++ x ∷ []) r
one_done done x (Ok rest) = ap (λ (l : List _). Ok l) (sym (append_assoc done (x ∷ []) rest))
one_done done x (Err e) = refl

-- a fault of the first step is one of all
pub failed : {A B : Type 0} (e : ExtFault) (r : Read A) (f : A → Read B) → Fails e r → Fails e (r >>= f)
failed faults.NoMemory r f h = tt
failed faults.BadWrapper r f h = ap (λ (x : Read _). x >>= f) h
failed faults.Double r f h = ap (λ (x : Read _). x >>= f) h
failed faults.Decimal r f h = ap (λ (x : Read _). x >>= f) h
failed faults.Range r f h = ap (λ (x : Read _). x >>= f) h

kept_or : (t name : List ℕ) (b : Bool) → cond b (Err BadWrapper) (Ok t) ≡ Ok name → name ≡ t
kept_or t name true h = absurd cc
kept_or t name false h = cc

name_kept : (t name : List ℕ) → without_zero t ≡ Ok name → name ≡ t
unfolding without_zero
name_kept t name h = kept_or t name (list_any (λ c. eqb c 0) t) h

module _ (ts : List Tree) where
  abbrev pub items_left : ℕ → Read (List Value)
  items_left i = items_value (map value_of (drop i ts))

  pub items_start : items_value (map value_of ts) ≡ behind [] (items_left 0)
  items_start = none_done (items_value (map value_of ts))

  module _ (i : ℕ) (t : Tree) (lt : i < length ts) (at : t ≡ get_or ts i t) where
    here : drop i ts ≡ t ∷ drop (i + 1) ts
    here = let s : suc i ≡ i + 1 = omega arith in rw (← s) (drop-cons ts i t lt ∙ ap (λ (x : Tree). x ∷ drop (suc i) ts) (sym at))

    left_here : items_left i ≡ (value_of t >>= λ v. items_left (i + 1) >>= λ vs. Ok (v ∷ vs))
    unfolding items_value
    left_here = ap (λ (l : List Tree). items_value (map value_of l)) here

    pub items_more : (done : List Value) (v : Value) (total : Read (List Value)) → value_of t ≡ Ok v → total ≡ behind done (items_left i) → total ≡ behind (done ++ v ∷ []) (items_left (i + 1))
    items_more done v total e h = h ∙ ap (λ (r : Read (List Value)). behind done r) (left_here ∙ ap (λ (x : Read Value). x >>= λ w. items_left (i + 1) >>= λ vs. Ok (w ∷ vs)) e) ∙ one_done done v (items_left (i + 1))

    pub items_fail : (done : List Value) (e : ExtFault) (total : Read (List Value)) → Fails e (value_of t) → total ≡ behind done (items_left i) → Fails e total
    items_fail done e total f h =
        rw (h, left_here) (failed e (value_of t >>= λ v. items_left (i + 1) >>= λ vs. Ok (v ∷ vs)) (λ rest. Ok (done ++ rest)) (failed e (value_of t) (λ v. items_left (i + 1) >>= λ vs. Ok (v ∷ vs)) f))

  pub items_end : (i : ℕ) (done : List Value) (total : Read (List Value)) → length ts ≤ i → total ≡ behind done (items_left i) → total ≡ Ok done
  unfolding items_value
  items_end i done total le h = h ∙ ap (λ (l : List Tree). behind done (items_value (map value_of l))) (drop_all i ts le) ∙ ap (λ (l : List Value). Ok l) (append-nil done)

module _ (es : List (List ℕ × Tree)) where
  abbrev pub fields_left : ℕ → Read (List (List ℕ × Value))
  fields_left i = fields_value (parts_of (drop i es))

  pub fields_start : fields_value (parts_of es) ≡ behind [] (fields_left 0)
  fields_start = none_done (fields_value (parts_of es))

  module _ (i : ℕ) (e : List ℕ × Tree) (lt : i < length es) (at : e ≡ get_or es i e) where
    member_here : drop i es ≡ e ∷ drop (i + 1) es
    member_here = let s : suc i ≡ i + 1 = omega arith in rw (← s) (drop-cons es i e lt ∙ ap (λ (x : List ℕ × Tree). x ∷ drop (suc i) es) (sym at))

    abbrev rest_of : List ℕ → Value → Read (List (List ℕ × Value))
    rest_of name v = fields_left (i + 1) >>= λ fs. Ok ((name, v) ∷ fs)

    fields_here : fields_left i ≡ (without_zero e.0 >>= λ name. value_of e.1 >>= λ v. rest_of name v)
    unfolding fields_value
    fields_here = ap (λ (l : List (List ℕ × Tree)). fields_value (parts_of l)) member_here

    pub fields_more : (done : List (List ℕ × Value)) (name : List ℕ) (v : Value) (total : Read (List (List ℕ × Value))) → without_zero e.0 ≡ Ok name → value_of e.1 ≡ Ok v → total ≡ behind done (fields_left i) → total ≡ behind (done ++ (name, v) ∷ []) (fields_left (i + 1))
    fields_more done name v total n w h = h ∙ ap (λ (r : Read (List (List ℕ × Value))). behind done r) (rw (fields_here, n, w) refl) ∙ one_done done (name, v) (fields_left (i + 1))

    pub name_fails : (done : List (List ℕ × Value)) (f : ExtFault) (total : Read (List (List ℕ × Value))) → Fails f (without_zero e.0) → total ≡ behind done (fields_left i) → Fails f total
    name_fails done f total n h =
        rw (h, fields_here) (failed f (without_zero e.0 >>= λ name. value_of e.1 >>= λ v. rest_of name v) (λ rest. Ok (done ++ rest)) (failed f (without_zero e.0) (λ name. value_of e.1 >>= λ v. rest_of name v) n))

    pub value_fails : (done : List (List ℕ × Value)) (name : List ℕ) (f : ExtFault) (total : Read (List (List ℕ × Value))) → without_zero e.0 ≡ Ok name → Fails f (value_of e.1) → total ≡ behind done (fields_left i) → Fails f total
    value_fails done name f total n w h =
        rw (h, fields_here, n) (failed f (value_of e.1 >>= λ v. rest_of name v) (λ rest. Ok (done ++ rest)) (failed f (value_of e.1) (λ v. rest_of name v) w))

    pub names_more : (done : List (List ℕ × Value)) (name : List ℕ) (v : Value) → without_zero e.0 ≡ Ok name → names_of done ≡ names_of (take i es) → names_of (done ++ (name, v) ∷ []) ≡ names_of (take (i + 1) es)
    names_more done name v n h =
        let last : take (i + 1) es ≡ take i es ++ e ∷ [] = take_more es i e lt ∙ ap (λ (x : List ℕ × Tree). take i es ++ x ∷ []) (sym at) in
        names_of-push done (name, v) ∙ ap (λ (ns : List (List ℕ)). ns ++ name ∷ []) h ∙ ap (λ (m : List ℕ). names_of (take i es) ++ m ∷ []) (name_kept e.0 name n)
        ∙ sym (ap (λ (l : List (List ℕ × Tree)). names_of l) last ∙ names_of-push (take i es) e)

  pub fields_end : (i : ℕ) (done : List (List ℕ × Value)) (total : Read (List (List ℕ × Value))) → length es ≤ i → total ≡ behind done (fields_left i) → total ≡ Ok done
  unfolding fields_value
  fields_end i done total le h = h ∙ ap (λ (l : List (List ℕ × Tree)). behind done (fields_value (parts_of l))) (drop_all i es le) ∙ ap (λ (l : List (List ℕ × Value)). Ok l) (append-nil done)
