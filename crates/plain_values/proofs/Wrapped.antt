-- What a wrapper is read as.
use Rattle.std.proofs.Common.{◌≡◌, ℕ, ◌^◌, ◌<◌, Bool as Truth, true, false, cond, List, [], ◌∷◌, reverse, refl, subst, arith, Option, Some, None, Ok, Err}
use Rattle.std.specs.Prelude.{IfOk, IfSome, codes}
use Rattle.std.specs.List.{AllByRecursion}
use Rattle.containers.specs.Entries.{lookup}
use Rattle.std.specs.Int.{w32, w64}
use Rattle.std.specs.Str.{bytes_eq}
use Rattle.bson_value.specs.declared.value.Value.{Value, Value-F, roll-Value, every-Value}
use Rattle.bson_value.specs.declared.value.Value.TheVariants as values
use Rattle.bson_value.specs.declared.value.Ts.{Ts}
use Rattle.bson_value.specs.WellFormed.{AreBytes, IsName, IsRun, IsWellFormedLevel, IsWellFormed}
use Rattle.bson_value.proofs.WellFormed.{IsHeldWellFormed, formed_one}
use Rattle.json_tree.specs.declared.tree.Tree.{Tree}
use Rattle.json_tree.specs.WellFormed.{IsWellFormed as IsWellFormedTree}
use Rattle.extjson.specs.declared.fault.ExtFault.TheVariants as faults
use Rattle.extjson.specs.RoundTrip.{IsPlain}
use Rattle.extjson.specs.Trees.{one, minus_one}
use Rattle.extjson.specs.Wrappers.{outermost_names, wrapper_of}
use Rattle.extjson.specs.Values.{Read, ◌>>=◌, string_of, number_of, true_of, members_of, only, both, without_zero, whole, ranged, counted, hex_of, base64_of, subtype_of, int_value, long_of, long_value, told_double, double_value, double_bits_value, decimal_value, decimal_bits_value, binary_value, undefined_value, id_of, oid_value, date_value, regex_value, pointer_value, code_value, symbol_value, stamp_value, key_value, wrapped_value}
use Rattle.extjson.proofs.RoundTrips.{Holds}
use Rattle.extjson.proofs.Wholes.{within_fits}
use Rattle.plain_values.proofs.Levels.{made}
use Rattle.spelled_bytes.proofs.Runs.{by_index}
use Rattle.plain_values.proofs.Decoded.{reversed}
use Rattle.plain_values.proofs.Parts.{next, after_any, IsText, string_text, AreMembers, members_well, only_one, BothAre, both_of, weaker, IsSame, zero_free, IsWithin, ranged_within, counted_below, hex_run, base64_bytes, subtype_small}

-- well-formed, and without a document that has an outermost name of a wrapper
abbrev pub IsGiven : Value → Type 0
IsGiven v = IsWellFormed v × every-Value IsPlain v

pub given : (x : Value-F Value) (v : Value) → roll-Value x ≡ v → IsWellFormedLevel x → IsHeldWellFormed x → IsPlain x → Holds IsPlain x → IsGiven v
given x v e a b c d = subst IsGiven e (formed_one x a b, made IsPlain x c d)

int_given : (t : Tree) → IfOk (int_value t) IsGiven
unfolding int_value
int_given t =
    next (IsWithin 2147483648) IsGiven (string_of t >>= whole >>= ranged 2147483648) (λ z. Ok (values.Int z))
    (after_any (IsWithin 2147483648) (string_of t >>= whole) (ranged 2147483648) (ranged_within 2147483648))
    (λ z h. given (Value-F.Int z) (values.Int z) (values.rolls-Int z) (within_fits w32 z h) tt tt tt)

long_within : (t : Tree) → IfOk (long_of t) (IsWithin 9223372036854775808)
unfolding long_of
long_within t = after_any (IsWithin 9223372036854775808) (string_of t >>= whole) (ranged 9223372036854775808) (ranged_within 9223372036854775808)

long_given : (t : Tree) → IfOk (long_value t) IsGiven
unfolding long_value
long_given t = next (IsWithin 9223372036854775808) IsGiven (long_of t) (λ z. Ok (values.Long z)) (long_within t) (λ z h. given (Value-F.Long z) (values.Long z) (values.rolls-Long z) (within_fits w64 z h) tt tt tt)

double_run : (d : List ℕ) → IsRun 8 d → IsGiven (values.Double d)
double_run d h = given (Value-F.Double d) (values.Double d) (values.rolls-Double d) h tt tt tt

one_run : IsRun 8 one
one_run = record { count_is = refl; are_bytes = by_index one (omega arith, (omega arith, (omega arith, (omega arith, (omega arith, (omega arith, (omega arith, (omega arith, tt)))))))) }

minus_one_run : IsRun 8 minus_one
minus_one_run = record { count_is = refl; are_bytes = by_index minus_one (omega arith, (omega arith, (omega arith, (omega arith, (omega arith, (omega arith, (omega arith, (omega arith, tt)))))))) }

told : (t : List ℕ) → IfOk (told_double t) IsGiven
told t = by (bytes_eq t (codes "1.0")) (bytes_eq t (codes "-1.0"))
  where
    by : (a b : Truth) → IfOk (cond a (Ok (values.Double one)) (cond b (Ok (values.Double minus_one)) (Err faults.Double))) IsGiven
    by true b = double_run one one_run
    by false true = double_run minus_one minus_one_run
    by false false = tt

double_given : (t : Tree) → IfOk (double_value t) IsGiven
unfolding double_value
double_given t = after_any IsGiven (string_of t) told_double told

bits_given : (t : Tree) → IfOk (double_bits_value t) IsGiven
unfolding double_bits_value
bits_given t =
    next (IsRun 8) IsGiven (string_of t >>= hex_of 8) (λ b. Ok (values.Double (reverse b)))
    (after_any (IsRun 8) (string_of t) (hex_of 8) (hex_run 8)) (λ b h. double_run (reverse b) (reversed 8 b h))

decimal_given : (t : Tree) → IfOk (decimal_value t) IsGiven
unfolding decimal_value
decimal_given t = after_any IsGiven (string_of t) (λ s. Err faults.Decimal) (λ s. tt)

decimal_bits_given : (t : Tree) → IfOk (decimal_bits_value t) IsGiven
unfolding decimal_bits_value
decimal_bits_given t =
    next (IsRun 16) IsGiven (string_of t >>= hex_of 16) (λ b. Ok (values.Decimal (reverse b)))
    (after_any (IsRun 16) (string_of t) (hex_of 16) (hex_run 16))
    (λ b h. given (Value-F.Decimal (reverse b)) (values.Decimal (reverse b)) (values.rolls-Decimal (reverse b)) (reversed 16 b h) tt tt tt)

-- two members of an object
two_members : (m n : List ℕ) (t : Tree) → IsWellFormedTree t → IfOk (members_of t >>= both m n) (BothAre IsWellFormedTree)
two_members m n t k = next AreMembers (BothAre IsWellFormedTree) (members_of t) (both m n) (members_well t k) (λ es h. both_of IsWellFormedTree m n es h)

one_member : (name : List ℕ) (t : Tree) → IsWellFormedTree t → IfOk (members_of t >>= only name) IsWellFormedTree
one_member name t k = next AreMembers IsWellFormedTree (members_of t) (only name) (members_well t k) (λ es h. only_one IsWellFormedTree name es h)

binary_given : (t : Tree) → IsWellFormedTree t → IfOk (binary_value t) IsGiven
unfolding binary_value
binary_given t k =
    next (BothAre IsWellFormedTree) IsGiven (members_of t >>= both (codes "base64") (codes "subType"))
    (λ p. string_of p.0 >>= base64_of >>= λ b. string_of p.1 >>= subtype_of >>= λ s. Ok (values.Binary s b)) (two_members _ _ t k)
    (λ p w. next AreBytes IsGiven (string_of p.0 >>= base64_of) (λ b. string_of p.1 >>= subtype_of >>= λ s. Ok (values.Binary s b))
    (after_any AreBytes (string_of p.0) base64_of base64_bytes)
    (λ b h. next (λ s. s < 256) IsGiven (string_of p.1 >>= subtype_of) (λ s. Ok (values.Binary s b))
    (after_any (λ s. s < 256) (string_of p.1) subtype_of subtype_small)
    (λ s l. given (Value-F.Binary s b) (values.Binary s b) (values.rolls-Binary s b) (l, h) tt tt tt)))

undefined_given : (t : Tree) → IfOk (undefined_value t) IsGiven
unfolding undefined_value
undefined_given t = after_any IsGiven (true_of t) (λ b. Ok values.Undefined) (λ b. given Value-F.Undefined values.Undefined values.rolls-Undefined tt tt tt tt)

id_run : (t : Tree) → IfOk (id_of t) (IsRun 12)
unfolding id_of
id_run t = after_any (IsRun 12) (string_of t) (hex_of 12) (hex_run 12)

oid_given : (t : Tree) → IfOk (oid_value t) IsGiven
unfolding oid_value
oid_given t = next (IsRun 12) IsGiven (id_of t) (λ b. Ok (values.Oid b)) (id_run t) (λ b h. given (Value-F.Oid b) (values.Oid b) (values.rolls-Oid b) h tt tt tt)

date_given : (t : Tree) → IfOk (date_value t) IsGiven
unfolding date_value
date_given t =
    next (IsWithin 9223372036854775808) IsGiven (members_of t >>= only (codes "$numberLong") >>= long_of) (λ z. Ok (values.Date z))
    (after_any (IsWithin 9223372036854775808) (members_of t >>= only (codes "$numberLong")) long_of long_within)
    (λ z h. given (Value-F.Date z) (values.Date z) (values.rolls-Date z) (within_fits w64 z h) tt tt tt)

-- a text without a zero
named : (t : Tree) → IsWellFormedTree t → IfOk (string_of t >>= without_zero) IsName
named t k = next IsText IsName (string_of t) without_zero (string_text t k) (λ s u. weaker (IsSame s) IsName (without_zero s) (λ m h. h.0) (zero_free s u))

regex_given : (t : Tree) → IsWellFormedTree t → IfOk (regex_value t) IsGiven
unfolding regex_value
regex_given t k =
    next (BothAre IsWellFormedTree) IsGiven (members_of t >>= both (codes "pattern") (codes "options"))
    (λ p. string_of p.0 >>= without_zero >>= λ a. string_of p.1 >>= without_zero >>= λ b. Ok (values.Regex a b)) (two_members _ _ t k)
    (λ p w. next IsName IsGiven (string_of p.0 >>= without_zero) (λ a. string_of p.1 >>= without_zero >>= λ b. Ok (values.Regex a b)) (named p.0 w.0)
    (λ a h. next IsName IsGiven (string_of p.1 >>= without_zero) (λ b. Ok (values.Regex a b)) (named p.1 w.1)
    (λ b g. given (Value-F.Regex a b) (values.Regex a b) (values.rolls-Regex a b) (h, g) tt tt tt)))

pointer_given : (t : Tree) → IsWellFormedTree t → IfOk (pointer_value t) IsGiven
unfolding pointer_value
pointer_given t k =
    next (BothAre IsWellFormedTree) IsGiven (members_of t >>= both (codes "$ref") (codes "$id"))
    (λ p. string_of p.0 >>= λ ns. members_of p.1 >>= only (codes "$oid") >>= id_of >>= λ id. Ok (values.DbPointer ns id)) (two_members _ _ t k)
    (λ p w. next IsText IsGiven (string_of p.0) (λ ns. members_of p.1 >>= only (codes "$oid") >>= id_of >>= λ id. Ok (values.DbPointer ns id)) (string_text p.0 w.0)
    (λ ns u. next (IsRun 12) IsGiven (members_of p.1 >>= only (codes "$oid") >>= id_of) (λ id. Ok (values.DbPointer ns id))
    (after_any (IsRun 12) (members_of p.1 >>= only (codes "$oid")) id_of id_run)
    (λ id h. given (Value-F.DbPointer ns id) (values.DbPointer ns id) (values.rolls-DbPointer ns id) (u, h) tt tt tt)))

code_given : (t : Tree) → IsWellFormedTree t → IfOk (code_value t) IsGiven
unfolding code_value
code_given t k = next IsText IsGiven (string_of t) (λ s. Ok (values.Code s)) (string_text t k) (λ s u. given (Value-F.Code s) (values.Code s) (values.rolls-Code s) u tt tt tt)

symbol_given : (t : Tree) → IsWellFormedTree t → IfOk (symbol_value t) IsGiven
unfolding symbol_value
symbol_given t k = next IsText IsGiven (string_of t) (λ s. Ok (values.Symbol s)) (string_text t k) (λ s u. given (Value-F.Symbol s) (values.Symbol s) (values.rolls-Symbol s) u tt tt tt)

stamp_of : ℕ → ℕ → Value
stamp_of secs inc = values.Stamp (record { secs = secs; inc = inc })

stamp_told : (secs inc : ℕ) → secs < 2 ^ 32 → inc < 2 ^ 32 → IsGiven (stamp_of secs inc)
unfolding stamp_of
stamp_told secs inc h g = let ts : Ts = record { secs = secs; inc = inc } in given (Value-F.Stamp ts) (values.Stamp ts) (values.rolls-Stamp ts) (h, g) tt tt tt

stamp_given : (t : Tree) → IfOk (stamp_value t) IsGiven
unfolding stamp_value stamp_of
stamp_given t =
    after_any IsGiven (members_of t >>= both (codes "t") (codes "i"))
    (λ p. number_of p.0 >>= whole >>= λ a. number_of p.1 >>= whole >>= λ b. counted a >>= λ secs. counted b >>= λ inc. Ok (stamp_of secs inc))
    (λ p. after_any IsGiven (number_of p.0 >>= whole) (λ a. number_of p.1 >>= whole >>= λ b. counted a >>= λ secs. counted b >>= λ inc. Ok (stamp_of secs inc))
    (λ a. after_any IsGiven (number_of p.1 >>= whole) (λ b. counted a >>= λ secs. counted b >>= λ inc. Ok (stamp_of secs inc))
    (λ b. next (λ n. n < 2 ^ 32) IsGiven (counted a) (λ secs. counted b >>= λ inc. Ok (stamp_of secs inc)) (counted_below a)
    (λ secs h. next (λ n. n < 2 ^ 32) IsGiven (counted b) (λ inc. Ok (stamp_of secs inc)) (counted_below b)
    (λ inc g. stamp_told secs inc h g)))))

key_given : (key : Value) (t : Tree) → IsGiven key → IfOk (key_value key t) IsGiven
unfolding key_value
key_given key t h = after_any IsGiven (number_of t) (λ n. cond (bytes_eq n (codes "1")) (Ok key) (Err faults.BadWrapper)) (λ n. by (bytes_eq n (codes "1")))
  where
    by : (b : Truth) → IfOk (cond b (Ok key) (Err faults.BadWrapper)) IsGiven
    by true = h
    by false = tt

-- ---- by the outermost name

module _ {A : Type 0} (P : A → Type 0) (name : List ℕ) where
  found : (es : List (List ℕ × A)) → AllByRecursion (λ e. P e.1) es → IfSome (lookup name es) P
  found [] h = tt
  found (e ∷ es) h = by (bytes_eq e.0 name) (found es h.1)
    where
      by : (b : Truth) → IfSome (lookup name es) P → IfSome (cond b (Some e.1) (lookup name es)) P
      by true g = h.0
      by false g = g

  given_by : (f : Option A → Read Value) (o : Option A) → IfOk (f None) IsGiven → IfSome o P → ((a : A) → P a → IfOk (f (Some a)) IsGiven) → IfOk (f o) IsGiven
  given_by f None n h g = n
  given_by f (Some a) n h g = g a h

-- each wrapper
all_given : (t : Tree) → IsWellFormedTree t → AllByRecursion (λ e. IfOk (wrapped_value (Some e.1) t) IsGiven) outermost_names
unfolding outermost_names
all_given t k = (
  int_given t,
  (
    long_given t,
    (
      double_given t,
      (
        bits_given t,
        (
          decimal_given t,
          (
            decimal_bits_given t,
            (
              binary_given t k,
              (
                undefined_given t,
                (
                  oid_given t,
                  (
                    date_given t,
                    (
                      regex_given t k,
                      (
                        pointer_given t k,
                        (
                          code_given t k,
                          (
                            symbol_given t k,
                            (
                              stamp_given t,
                              (
                                key_given values.MinKey t (given Value-F.MinKey values.MinKey values.rolls-MinKey tt tt tt tt),
                                (key_given values.MaxKey t (given Value-F.MaxKey values.MaxKey values.rolls-MaxKey tt tt tt tt), tt),
                              ),
                            ),
                          ),
                        ),
                      ),
                    ),
                  ),
                ),
              ),
            ),
          ),
        ),
      ),
    ),
  ),
)

pub wrapped_given : (name : List ℕ) (t : Tree) → IsWellFormedTree t → IfOk (wrapped_value (wrapper_of name) t) IsGiven
unfolding wrapper_of
wrapped_given name t k =
    given_by (λ w. IfOk (wrapped_value (Some w) t) IsGiven) name (λ o. wrapped_value o t) (lookup name outermost_names) tt
    (found (λ w. IfOk (wrapped_value (Some w) t) IsGiven) name outermost_names (all_given t k)) (λ w h. h)
