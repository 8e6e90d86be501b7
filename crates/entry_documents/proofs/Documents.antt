-- The fields of an entry are a document.
use Rattle.std.proofs.Common.{◌≡◌, ℕ, zero, suc, ◌*◌, true, false, List, [], ◌∷◌, refl, arith}
use Rattle.std.specs.Prelude.{bytes_eq, pos, Option, Some, None, Contains, nat_lt, ◌==◌}
use Rattle.std.specs.Str.{is_utf8, IsAscii}
use Rattle.std.specs.List.{list_any, list_all}
use Rattle.std.proofs.lemmas.Bool.{eq-eqb, or_parts, and_parts, ltb-true}
use Rattle.std.proofs.lemmas.Str.{is_utf8-from_IsUtf8, IsUtf8-from_ascii}
use Rattle.std.proofs.lemmas.Slice.Eq.{bytes_eq-Decides}
use Rattle.bson_value.specs.WellFormed.{IsName, IsWellFormedDocument}
use Rattle.bson_value.proofs.WellFormed.{formed_str, formed_long, formed_stamp, formed_date, formed_object}
use Rattle.entry_model.specs.Written.{Fields}
use Rattle.entry_documents.specs.Laws.{fields_at, item_fields, IsDocumentIn, EntriesAreDocuments, ItemsAreDocuments}

any_zero : (x : ℕ) (xs : List ℕ) → (list_any (λ b. b == 0) (x ∷ xs) ≡ false) → (x ≡ 0 → ⊥) × (list_any (λ b. b == 0) xs ≡ false)
any_zero x xs h = let k = or_parts (x == 0) (list_any (λ b. b == 0) xs) h in (λ e. let t : (x == 0) ≡ true = eq-eqb x 0 e in let f = k.0 in cc, k.1)

no_zero_of : (xs : List ℕ) → list_any (λ b. b == 0) xs ≡ false → Contains xs 0 → ⊥
no_zero_of [] h c = omega (arith, c.1)
no_zero_of (x ∷ xs) h (zero, l, e) = (any_zero x xs h).0 e
no_zero_of (x ∷ xs) h (suc i, l, e) = no_zero_of xs (any_zero x xs h).1 (i, omega (arith, l), e)

all_ascii : (t : List ℕ) → list_all (λ b. nat_lt b 128) t ≡ true → IsAscii t
all_ascii [] h i = omega arith
all_ascii (x ∷ xs) h zero = ltb-true x 128 (and_parts (nat_lt x 128) (list_all (λ b. nat_lt b 128) xs) h).0
all_ascii (x ∷ xs) h (suc i) = all_ascii xs (and_parts (nat_lt x 128) (list_all (λ b. nat_lt b 128) xs) h).1 i

-- letters below 128 are a text, and without a zero a name
pub a_text : (t : List ℕ) → list_all (λ b. nat_lt b 128) t ≡ true → is_utf8 t ≡ true
a_text t h = is_utf8-from_IsUtf8 t (IsUtf8-from_ascii t (all_ascii t h))

pub a_name : (n : List ℕ) → list_all (λ b. nat_lt b 128) n ≡ true → list_any (λ b. b == 0) n ≡ false → IsName n
a_name n u z = record { utf8 = a_text n u; no_zero = no_zero_of n z }

pub differ : (a b : List ℕ) → bytes_eq a b ≡ false → a ≡ b → ⊥
differ a b h e = let k : bytes_eq a b ≡ true = (bytes_eq-Decides a b).1 e in cc

pub entries_are : EntriesAreDocuments
entries_are ts b f h = by b.o2 h.o2
  where
    by : (o : Option Fields) → IsDocumentIn o → IsWellFormedDocument (fields_at ts (record { op = b.op; ns = b.ns; o2 = o; o = b.o }))
    by None k = (
      (
        (
          (differ _ _ refl, (differ _ _ refl, (differ _ _ refl, (differ _ _ refl, (differ _ _ refl, (differ _ _ refl, tt)))))),
          (
            (differ _ _ refl, (differ _ _ refl, (differ _ _ refl, (differ _ _ refl, (differ _ _ refl, tt))))),
            (
              (differ _ _ refl, (differ _ _ refl, (differ _ _ refl, (differ _ _ refl, tt)))),
              (
                (differ _ _ refl, (differ _ _ refl, (differ _ _ refl, tt))),
                (
                  (differ _ _ refl, (differ _ _ refl, tt)),
                  ((differ _ _ refl, tt), (tt, tt)),
                ),
              ),
            ),
          ),
        ),
        (a_name _ refl refl, (a_name _ refl refl, (a_name _ refl refl, (a_name _ refl refl, (a_name _ refl refl, (a_name _ refl refl, (a_name _ refl refl, tt))))))),
      ),
      (formed_stamp ts f.secs f.inc, (formed_long (pos 1) (omega arith), (formed_long (pos 2) (omega arith), (formed_str b.op h.op, (formed_str b.ns h.ns, (formed_object b.o h.o, (formed_date (pos (ts.secs * 1000)) (omega (arith, f.secs)), tt))))))),
    )
    by (Some d) k = (
      (
        (
          (differ _ _ refl, (differ _ _ refl, (differ _ _ refl, (differ _ _ refl, (differ _ _ refl, (differ _ _ refl, (differ _ _ refl, tt))))))),
          (
            (differ _ _ refl, (differ _ _ refl, (differ _ _ refl, (differ _ _ refl, (differ _ _ refl, (differ _ _ refl, tt)))))),
            (
              (differ _ _ refl, (differ _ _ refl, (differ _ _ refl, (differ _ _ refl, (differ _ _ refl, tt))))),
              (
                (differ _ _ refl, (differ _ _ refl, (differ _ _ refl, (differ _ _ refl, tt)))),
                (
                  (differ _ _ refl, (differ _ _ refl, (differ _ _ refl, tt))),
                  (
                    (differ _ _ refl, (differ _ _ refl, tt)),
                    ((differ _ _ refl, tt), (tt, tt)),
                  ),
                ),
              ),
            ),
          ),
        ),
        (a_name _ refl refl, (a_name _ refl refl, (a_name _ refl refl, (a_name _ refl refl, (a_name _ refl refl, (a_name _ refl refl, (a_name _ refl refl, (a_name _ refl refl, tt)))))))),
      ),
      (formed_stamp ts f.secs f.inc, (formed_long (pos 1) (omega arith), (formed_long (pos 2) (omega arith), (formed_str b.op h.op, (formed_str b.ns h.ns, (formed_object d k, (formed_object b.o h.o, (formed_date (pos (ts.secs * 1000)) (omega (arith, f.secs)), tt)))))))),
    )

pub items_are : ItemsAreDocuments
items_are b h = by b.o2 h.o2
  where
    by : (o : Option Fields) → IsDocumentIn o → IsWellFormedDocument (item_fields (record { op = b.op; ns = b.ns; o2 = o; o = b.o }))
    by None k = (
      (
        (
          (differ _ _ refl, (differ _ _ refl, tt)),
          ((differ _ _ refl, tt), (tt, tt)),
        ),
        (a_name _ refl refl, (a_name _ refl refl, (a_name _ refl refl, tt))),
      ),
      (formed_str b.op h.op, (formed_str b.ns h.ns, (formed_object b.o h.o, tt))),
    )
    by (Some d) k = (
      (
        (
          (differ _ _ refl, (differ _ _ refl, (differ _ _ refl, tt))),
          (
            (differ _ _ refl, (differ _ _ refl, tt)),
            ((differ _ _ refl, tt), (tt, tt)),
          ),
        ),
        (a_name _ refl refl, (a_name _ refl refl, (a_name _ refl refl, (a_name _ refl refl, tt)))),
      ),
      (formed_str b.op h.op, (formed_str b.ns h.ns, (formed_object d k, (formed_object b.o h.o, tt)))),
    )
