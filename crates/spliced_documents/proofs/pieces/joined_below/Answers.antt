use Rattle.std.proofs.Common.{◌≡◌, ℕ, ◌+◌, [], ◌∷◌, ◌++◌, length, ap, sym, ◌∙◌, arith}
use Rattle.std.proofs.lemmas.List.{append-nil, length-append}
use Rattle.bson_value.specs.Spelling.{count_bytes, element}
use Rattle.spliced_documents.proofs.Joining.{two_levels}
use Rattle.spliced_documents.proofs.pieces.joined_below.Goals as goal

pub returns-clause-bytes : goal.returns-clause-bytes
returns-clause-bytes c =
    let f = c.args.field.now in
    let of = c.args.outer.0.now in
    let rest = c.args.outer.1.now in
    let first = c.args.inner.0.now in
    let last = c.args.inner.1.now in
    let below : ℕ = length first + length last + 4 in
    let len : ℕ = length of + length f + length rest + below + 6 in
    let parted = c.put_counted-2.new.out.items in
    let whole = two_levels c.in_ok-out.out.items c.put_counted.new.out.items c.put_name.new.out.items parted parted c.extend_from_slice.new.self.items c.extend_from_slice-2.new.self.items c.args.tag
    (count_bytes len) of f (count_bytes below) first [] last rest c.in_ok-out.ensures.items c.in_ok-put_counted.ensures c.in_ok-put_name.ensures c.in_ok-put_counted-2.ensures (sym (append-nil parted)) c.in_ok-extend_from_slice.ensures.items c.in_ok-extend_from_slice-2.ensures.items in
    let is_below : below ≡ length first + 0 + length last + 4 = omega arith in
    let value = count_bytes (length first + 0 + length last + 4) ++ first ++ [] ++ last in
    let is_len : len ≡ length of + length (element (f, (c.args.tag, value))) + length rest + 4 =
    omega (arith, length-append f (0 ∷ value), length-append (count_bytes (length first + 0 + length last + 4) ++ first ++ []) last, length-append (count_bytes (length first + 0 + length last + 4) ++ first) [], length-append (count_bytes (length first + 0 + length last + 4)) first) in
    c.from_vec.ensures ∙ whole ∙ ap (λ (n : ℕ). count_bytes len ++ of ++ element (f, (c.args.tag, count_bytes n ++ first ++ [] ++ last)) ++ rest) is_below
    ∙ ap (λ (n : ℕ). count_bytes n ++ of ++ element (f, (c.args.tag, value)) ++ rest) is_len
