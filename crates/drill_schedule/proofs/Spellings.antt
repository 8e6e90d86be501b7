-- Texts of values: each is the print of a tree that is read as the value.
use Rattle.std.proofs.Common.{◌≡◌, ℕ, suc, ◌≤◌, Bool as Truth, true, false, ◌||◌, List, [], ◌∷◌, ◌++◌, map, Ok, refl, sym, ap, ◌∙◌, subst, arith, append_assoc}
use Rattle.std.specs.Prelude.{pos, is_some, codes}
use Rattle.std.specs.Fmt.{decimal}
use Rattle.std.specs.Str.{bytes_eq}
use Rattle.std.proofs.lemmas.List.{append-nil}
use Rattle.std.proofs.lemmas.Slice.Eq.{bytes_eq-Decides}
use Rattle.containers.specs.Entries.{AreDistinct, names_of}
use Rattle.bson_value.specs.declared.value.Value.{Value}
use Rattle.bson_value.specs.declared.value.Value.TheVariants as values
use Rattle.json_tree.specs.declared.tree.Tree.{Tree, Tree-F, roll-Tree, map-Tree, fold-roll-Tree}
use Rattle.json_tree.specs.declared.tree.Tree.TheVariants as trees
use Rattle.json_tree.specs.Levels.{levels_of, field_levels}
use Rattle.json_tree.specs.WellFormed.{IsWellFormed, AreWellFormedEntries}
use Rattle.json_tree.proofs.WellFormed.{well_number, well_str, well_items, well_entries, well_entry}
use Rattle.json_text.specs.Grammar.{Json}
use Rattle.json_text.specs.Print.{quoted, behind_commas, member_text, print_step, text_of}
use Rattle.json_text.specs.Printing.{PrintIsJson}
use Rattle.extjson.specs.Values.{items_value, fields_value, has_wrapper, value_of, parts_of}
use Rattle.extjson.specs.Wrappers.{wrapper_of}
use Rattle.extjson.proofs.Decimals.{decimal_number}
use Rattle.extjson.proofs.Shallow.{of_str, of_number, of_items, of_object}
use Rattle.extjson.proofs.TreeParts.{value_items, value_object, value_str, plain_object}
use Rattle.schedule_text.specs.DrillText.{joined}
use Rattle.schedule_text.specs.Grammar.{IsDocument}
use Rattle.schedule_text.specs.Operands.{Doc}
use Rattle.drill_schedule.proofs.Bytes.{ArePlain, plain_text, plain_zero, number_value}

-- ---- texts in pieces

pub joined_both : (ps qs : List (List ℕ)) → joined (ps ++ qs) ≡ joined ps ++ joined qs
joined_both [] qs = refl
joined_both (p ∷ ps) qs = ap (λ (t : List ℕ). p ++ t) (joined_both ps qs) ∙ sym (append_assoc p (joined ps) (joined qs))

-- what stands before a member's value
abbrev pub label : List ℕ → List ℕ
label name = quoted name ++ 58 ∷ []

-- ---- values

-- the pieces spell the value, with so many levels at most
pub record Spells (levels : ℕ) (pieces : List (List ℕ)) (v : Value) : Type 0 where
  pub tree : Tree
  pub prints : text_of tree ≡ joined pieces
  pub formed : IsWellFormed tree
  pub shallow : levels_of tree ≤ levels
  pub reads : value_of tree ≡ Ok v

print_at : (x : Tree-F Tree) → text_of (roll-Tree x) ≡ print_step (map-Tree Tree (List ℕ) text_of x)
print_at x = fold-roll-Tree (List ℕ) print_step x

pub number : {levels : ℕ} (n : ℕ) → n ≤ 100000 → Spells levels (decimal n ∷ []) (values.Int (pos n))
number n le = record {
  tree = trees.Number (decimal n);
  prints = ap text_of (sym (trees.rolls-Number (decimal n))) ∙ print_at (Tree-F.Number (decimal n)) ∙ sym (append-nil (decimal n));
  formed = well_number (decimal n) (decimal_number n (omega arith));
  shallow = omega (arith, of_number (decimal n));
  reads = number_value n le;
}

pub string : {levels : ℕ} (t : List ℕ) → ArePlain t → Spells levels (quoted t ∷ []) (values.Str t)
string t h = record {
  tree = trees.Str t;
  prints = ap text_of (sym (trees.rolls-Str t)) ∙ print_at (Tree-F.Str t) ∙ sym (append-nil (quoted t));
  formed = well_str t (plain_text t h);
  shallow = omega (arith, of_str t);
  reads = value_str t;
}

pub no_items : {levels : ℕ} → Spells (suc levels) (codes "[]" ∷ []) (values.Array [])
unfolding items_value
no_items = record {
  tree = trees.Items [];
  prints = ap text_of (sym (trees.rolls-Items [])) ∙ print_at (Tree-F.Items []);
  formed = well_items [] tt;
  shallow = omega (arith, of_items []);
  reads = value_items [];
}

pub one_item : {levels : ℕ} {ps : List (List ℕ)} {v : Value} → Spells levels ps v → Spells (suc levels) (codes "[" ∷ (ps ++ codes "]" ∷ [])) (values.Array (v ∷ []))
unfolding items_value
one_item {levels} {ps} {v} s = record {
  tree = trees.Items (s.tree ∷ []);
  prints =
      ap text_of (sym (trees.rolls-Items (s.tree ∷ []))) ∙ print_at (Tree-F.Items (s.tree ∷ []))
      ∙ ap (λ (t : List ℕ). 91 ∷ (t ++ 93 ∷ [])) (append-nil (text_of s.tree) ∙ s.prints) ∙ ap (λ (t : List ℕ). 91 ∷ t) (sym (joined_both ps (codes "]" ∷ [])));
  formed = well_items (s.tree ∷ []) (s.formed, tt);
  shallow = omega (arith, of_items (s.tree ∷ []), s.shallow);
  reads = value_items (s.tree ∷ []) ∙ rw s.reads refl;
}

-- ---- documents

-- these pieces are these fields of a document, each behind a comma
pub record AreFields (levels : ℕ) (pieces : List (List ℕ)) (fs : Doc) : Type 0 where
  pub members : List (List ℕ × Tree)
  pub names : names_of members ≡ names_of fs
  pub prints : behind_commas (map member_text (map (λ (e : List ℕ × Tree). (e.0, text_of e.1)) members)) ≡ joined pieces
  pub formed : AreWellFormedEntries members
  pub shallow : field_levels members ≤ levels
  pub reads : fields_value (parts_of members) ≡ Ok fs
  pub wrappers : has_wrapper members ≡ has_wrapper fs

pub no_fields : {levels : ℕ} → AreFields levels [] []
unfolding fields_value has_wrapper
no_fields = record { members = []; names = refl; prints = refl; formed = tt; shallow = omega arith; reads = refl; wrappers = refl }

-- a member and what stands behind it
member_print : (name text rest : List ℕ) (ps qs : List (List ℕ)) → text ≡ joined ps → rest ≡ joined qs → member_text (name, text) ++ rest ≡ label name ++ joined (ps ++ qs)
member_print name text rest ps qs e f =
    append_assoc (quoted name) (58 ∷ text) rest ∙ (λ i. quoted name ++ 58 ∷ (e i ++ f i)) ∙ ap (λ (t : List ℕ). quoted name ++ 58 ∷ t) (sym (joined_both ps qs)) ∙ sym (append_assoc (quoted name) (58 ∷ []) (joined (ps ++ qs)))

pub field : {levels : ℕ} {ps qs : List (List ℕ)} {v : Value} {fs : Doc} (name : List ℕ) → ArePlain name → Spells levels ps v → AreFields levels qs fs → AreFields levels ((44 ∷ label name) ∷ (ps ++ qs)) ((name, v) ∷ fs)
unfolding fields_value has_wrapper
field {levels} {ps} {qs} name p s f = record {
  members = (name, s.tree) ∷ f.members;
  names = ap (λ (l : List (List ℕ)). name ∷ l) f.names;
  prints = ap (λ (t : List ℕ). 44 ∷ t) (member_print name (text_of s.tree) _ ps qs s.prints f.prints);
  formed = (well_entry (name, s.tree) (plain_text name p) s.formed, f.formed);
  shallow = omega (arith, s.shallow, f.shallow);
  reads = rw (plain_zero name p, s.reads, f.reads) refl;
  wrappers = ap (λ (b : Truth). is_some (wrapper_of name) || b) f.wrappers;
}

-- a document of a first field and others
pub object : {levels : ℕ} {ps qs : List (List ℕ)} {v : Value} {fs : Doc} (name : List ℕ) → ArePlain name → Spells levels ps v → AreFields levels qs fs → AreDistinct (names_of ((name, v) ∷ fs)) → has_wrapper ((name, v) ∷ fs) ≡ false
    → Spells (suc levels) ((123 ∷ label name) ∷ ((ps ++ qs) ++ codes "}" ∷ [])) (values.Object ((name, v) ∷ fs))
unfolding field
object {levels} {ps} {qs} {v} {fs} name p s f d w =
    let all = field name p s f in
    let inner = member_print name (text_of s.tree) _ ps qs s.prints f.prints in
    record {
      tree = trees.Object all.members;
      prints =
          ap text_of (sym (trees.rolls-Object all.members)) ∙ print_at (Tree-F.Object all.members) ∙ ap (λ (t : List ℕ). 123 ∷ (t ++ 125 ∷ [])) inner
          ∙ ap (λ (t : List ℕ). 123 ∷ t) (append_assoc (label name) (joined (ps ++ qs)) (125 ∷ []) ∙ ap (λ (t : List ℕ). label name ++ t) (sym (joined_both (ps ++ qs) (codes "}" ∷ []))));
      formed = well_entries all.members (subst AreDistinct (sym all.names) d) all.formed;
      shallow = omega (arith, of_object all.members, all.shallow);
      reads = value_object all.members ∙ plain_object all.members (all.wrappers ∙ w) ∙ rw all.reads refl;
    }

-- ---- whole texts

pub differ : (m n : List ℕ) → bytes_eq m n ≡ false → m ≡ n → ⊥
differ m n e p = let t : bytes_eq m n ≡ true = (bytes_eq-Decides m n).1 p in cc

pub document : PrintIsJson → {levels : ℕ} {ps : List (List ℕ)} {doc : Doc} → levels ≤ 256 → Spells levels ps (values.Object doc) → IsDocument (joined ps) doc
document json {levels} {ps} {doc} le s =
    (s.tree, values.Object doc, subst (λ (t : List ℕ). Json t s.tree) s.prints (json s.tree s.formed (omega (arith, le, s.shallow))), s.reads, values.outs-Object doc)
