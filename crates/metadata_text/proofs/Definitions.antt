-- Definitions in the order of their names, as a map keeps them.
use Rattle.std.proofs.Common.{◌≡◌, ℕ, suc, ◌+◌, ◌<◌, ◌≤◌, true, false, List, [], ◌∷◌, ◌++◌, length, take, get_or, map, Option, Some, None, Ordering, zero, refl, sym, ap, ◌∙◌, arith}
use Rattle.std.specs.Prelude.{fold, option_map, codes, string_bytes}
use Rattle.std.specs.Ordering.{nat_cmp, match_ordering}
use Rattle.std.specs.declared.cmp.Ordering.TheVariants.{Less, Equal, Greater}
use Rattle.std.specs.Cmp.Lexicographic.{slice_cmp}
use Rattle.std.specs.Str.{bytes_eq}
use Rattle.std.specs.Prelude.{String}
use Rattle.std.specs.String.{string_cmp}
use Rattle.std.specs.BTreeMap.{insert_entry}
use Rattle.std.specs.declared.alloc.Global.{Global}
use Rattle.std.proofs.lemmas.List.{take_more, take_all}
use Rattle.json_tree.specs.declared.tree.Tree.{Tree}
use Rattle.metadata_text.specs.Metadata.{Named, definition_name, name_first, named, put_in_order, in_order, by_bytes, trees_of, definitions_of}

abbrev Entry : Type 0
Entry = String Global × Tree

abbrev on_bytes : Entry → List ℕ × Tree
on_bytes e = (string_bytes e.0, e.1)

ordered_case : (o : Ordering) (k : String Global) (v : Tree) (e : Entry) (es fs : List Entry)
    → map on_bytes (match_ordering o ((k, v) ∷ e ∷ es) ((e.0, v) ∷ es) (e ∷ fs)) ≡ match_ordering o (on_bytes (k, v) ∷ on_bytes e ∷ map on_bytes es) ((string_bytes e.0, v) ∷ map on_bytes es) (on_bytes e ∷ map on_bytes fs)
ordered_case Less k v e es fs = refl
ordered_case Equal k v e es fs = refl
ordered_case Greater k v e es fs = refl

-- an entry that is put in by its name, and by the bytes of its name
inserted : (es : List Entry) (k : String Global) (v : Tree) → map on_bytes (insert_entry string_cmp es k v) ≡ insert_entry (slice_cmp nat_cmp) (map on_bytes es) (string_bytes k) v
inserted [] k v = refl
inserted (e ∷ es) k v =
    ordered_case (slice_cmp nat_cmp (string_bytes k) (string_bytes e.0)) k v e es (insert_entry string_cmp es k v)
    ∙ ap (λ (fs : List (List ℕ × Tree)). match_ordering (slice_cmp nat_cmp (string_bytes k) (string_bytes e.0)) (on_bytes (k, v) ∷ on_bytes e ∷ map on_bytes es) ((string_bytes e.0, v) ∷ map on_bytes es) (on_bytes e ∷ fs)) (inserted es k v)

-- ---- names

name_last : (d : Tree) (o : Option (List ℕ)) (es : Option Named) (n : List ℕ) (x : Tree) (fs : Named) → es ≡ Some fs → name_first d o (option_map (λ gs. gs ++ (n, x) ∷ []) es) ≡ option_map (λ gs. gs ++ (n, x) ∷ []) (name_first d o es)
name_last d None es n x fs h = refl
name_last d (Some m) (Some gs) n x fs h = refl
name_last d (Some m) None n x fs h = absurd cc

some_of : (d : Tree) (o : Option (List ℕ)) (r : Option Named) (es : Named) → name_first d o r ≡ Some es → (fs : Named) × (r ≡ Some fs)
some_of d None r es h = absurd cc
some_of d (Some m) None es h = absurd cc
some_of d (Some m) (Some fs) es h = (fs, refl)

named_push : (ds : List Tree) (d : Tree) (n : List ℕ) (es : Named) → named ds ≡ Some es → definition_name d ≡ Some n → named (ds ++ d ∷ []) ≡ option_map (λ gs. gs ++ (n, d) ∷ []) (named ds)
unfolding named
named_push [] d n es h m = rw m refl
named_push (x ∷ ds) d n es h m =
    let rest = some_of x (definition_name x) (named ds) es h in
    ap (name_first x (definition_name x)) (named_push ds d n rest.0 rest.1 m) ∙ name_last x (definition_name x) (named ds) n d rest.0 rest.1

nameless_first : (d : Tree) (r : Option Named) → definition_name d ≡ None → name_first d (definition_name d) r ≡ None
nameless_first d r h = rw h refl

none_after : (x : Tree) (o : Option (List ℕ)) → name_first x o None ≡ None
none_after x None = refl
none_after x (Some n) = refl

-- one without a name
nameless : (ds : List Tree) (i : ℕ) (d : Tree) → i < length ds → d ≡ get_or ds i d → definition_name d ≡ None → named ds ≡ None
unfolding named
nameless [] i d lt at h = absurd (omega arith)
nameless (x ∷ ds) zero d lt at h = nameless_first x (named ds) (ap definition_name (sym at) ∙ h)
nameless (x ∷ ds) (suc i) d lt at h = ap (name_first x (definition_name x)) (nameless ds i d (omega arith) at h) ∙ none_after x (definition_name x)

pub no_definitions : (ds : List Tree) (i : ℕ) (d : Tree) → i < length ds → d ≡ get_or ds i d → None ≡ definition_name d → None ≡ definitions_of ds
unfolding definitions_of
no_definitions ds i d lt at h = rw (nameless ds i d lt at (sym h)) refl

-- ---- the map so far

-- these are the definitions, in the order of their names
pub record Gathered (kept : Named) (ds : List Tree) : Type 0 where
  pub all : Named
  pub names : named ds ≡ Some all
  pub order : kept ≡ in_order all

fold_push : (es : Named) (e : List ℕ × Tree) (start : Named) → fold put_in_order start (es ++ e ∷ []) ≡ put_in_order (fold put_in_order start es) e
fold_push [] e start = refl
fold_push (f ∷ es) e start = fold_push es e (put_in_order start f)

pub none_gathered : (ds : List Tree) → Gathered [] (take 0 ds)
unfolding named in_order
none_gathered ds = record { all = []; names = refl; order = refl }

module _ (kept : Named) (ds : List Tree) (i : ℕ) (d : Tree) (n : List ℕ) (lt : i < length ds) (at : d ≡ get_or ds i d) (name : Some n ≡ definition_name d) (g : Gathered kept (take i ds)) where
  last : take (i + 1) ds ≡ take i ds ++ d ∷ []
  last = take_more ds i d lt ∙ ap (λ (x : Tree). take i ds ++ x ∷ []) (sym at)

  pub more : (after : Named) → after ≡ put_in_order kept (n, d) → Gathered after (take (i + 1) ds)
  unfolding in_order
  more after is = record {
    all = g.all ++ (n, d) ∷ [];
    names = ap named last ∙ named_push (take i ds) d n g.all g.names (sym name) ∙ ap (λ (o : Option Named). option_map (λ gs. gs ++ (n, d) ∷ []) o) g.names;
    order = is ∙ ap (λ (k : Named). put_in_order k (n, d)) g.order ∙ sym (fold_push g.all (n, d) []);
  }

pub all_gathered : (kept : Named) (ds : List Tree) (i : ℕ) → length ds ≤ i → Gathered kept (take i ds) → definitions_of ds ≡ Some (trees_of kept)
unfolding definitions_of
all_gathered kept ds i le g =
    let names : named ds ≡ Some g.all = ap named (sym (take_all i ds le)) ∙ g.names in
    rw (names, ← g.order) refl

pub kept_other : (es fs : List Entry) (k : String Global) (n : List ℕ) (d : Tree) → bytes_eq n (codes "_id_") ≡ false → string_bytes k ≡ n → fs ≡ insert_entry string_cmp es k d → by_bytes fs ≡ put_in_order (by_bytes es) (n, d)
kept_other es fs k n d other key put =
    ap (λ (l : List Entry). map on_bytes l) put ∙ inserted es k d ∙ ap (λ (m : List ℕ). insert_entry (slice_cmp nat_cmp) (map on_bytes es) m d) key ∙ rw other refl

pub kept_same : (es : Named) (n : List ℕ) (d : Tree) → bytes_eq n (codes "_id_") ≡ true → es ≡ put_in_order es (n, d)
kept_same es n d same = rw same refl
