-- What edits of chunks do to the room of a list.
use Rattle.std.proofs.Common.{◌≡◌, ℕ, zero, suc, ◌+◌, ◌-◌, ◌*◌, ◌<◌, ◌≤◌, inl, inr, List, [], ◌∷◌, ◌++◌, length, refl, sym, ap, subst, arith, Some}
use Rattle.std.specs.Prelude.{slice_get, slice_set}
use Rattle.std.specs.List.{insert, remove}
use Rattle.std.proofs.lemmas.List.{length-set}
use Rattle.sorted_list.specs.Chunks.{AreRoomy, AreEmpty}
use Rattle.sorted_list.specs.Rooms.{over_half, surplus, wanted, last_len, Affords, AffordsEnd, IsStocked}
use Rattle.sorted_list.proofs.Edits.{some_is, none_some, roomy_at, roomy_set, roomy_removed}

module _ {T : Type 0} where
  pub surplus_set : (cs : List (List T)) (n : ℕ) (c d : List T) → slice_get cs n ≡ Some c → surplus (slice_set cs n d) + over_half (length c) ≡ surplus cs + over_half (length d)
  surplus_set [] n c d e = absurd (none_some c e)
  surplus_set (b ∷ cs) zero c d e = omega (arith, ap (λ (l : List T). over_half (length l)) (some_is b c e))
  surplus_set (b ∷ cs) (suc n) c d e = omega (arith, surplus_set cs n c d e)

  pub surplus_insert : (cs : List (List T)) (n : ℕ) (d : List T) → surplus (insert cs n d) ≡ surplus cs + over_half (length d)
  surplus_insert [] zero d = omega arith
  surplus_insert [] (suc n) d = omega arith
  surplus_insert (c ∷ cs) zero d = omega arith
  surplus_insert (c ∷ cs) (suc n) d = omega (arith, surplus_insert cs n d)

  pub surplus_push : (cs : List (List T)) (d : List T) → surplus (cs ++ d ∷ []) ≡ surplus cs + over_half (length d)
  surplus_push [] d = omega arith
  surplus_push (c ∷ cs) d = omega (arith, surplus_push cs d)

  pub surplus_removed : (cs : List (List T)) (n : ℕ) (c : List T) → slice_get cs n ≡ Some c → surplus (remove cs n) + over_half (length c) ≡ surplus cs
  surplus_removed [] n c e = absurd (none_some c e)
  surplus_removed (b ∷ cs) zero c e = omega (arith, ap (λ (l : List T). over_half (length l)) (some_is b c e))
  surplus_removed (b ∷ cs) (suc n) c e = omega (arith, surplus_removed cs n c e)

  pub surplus_few : (cs : List (List T)) → AreRoomy cs → surplus cs ≤ 63 * length cs
  surplus_few [] r = omega arith
  surplus_few (c ∷ cs) r = omega (arith, r.0, r.1, surplus_few cs r.2)

  pub wanted_some : (cs : List (List T)) → 0 < length cs → wanted cs ≡ surplus cs
  wanted_some [] l = absurd (omega (arith, l))
  wanted_some (c ∷ cs) l = refl

  pub wanted_few : (cs : List (List T)) → wanted cs ≤ surplus cs + 63
  wanted_few [] = omega arith
  wanted_few (c ∷ cs) = omega arith

  pub surplus_wanted : (cs : List (List T)) → surplus cs ≤ wanted cs
  surplus_wanted [] = omega arith
  surplus_wanted (c ∷ cs) = omega arith

  pub last_few : (cs : List (List T)) → AreRoomy cs → (0 < last_len cs) × (last_len cs ≤ 127)
  last_few [] r = (omega arith, omega arith)
  last_few (c ∷ []) r = (r.0, omega (arith, r.1))
  last_few (c ∷ (d ∷ ds)) r = last_few (d ∷ ds) r.2

  pub last_push : (cs : List (List T)) (d : List T) → last_len (cs ++ d ∷ []) ≡ length d
  last_push [] d = refl
  last_push (c ∷ []) d = refl
  last_push (c ∷ (b ∷ bs)) d = last_push (b ∷ bs) d

  pub last_at : (cs : List (List T)) (n : ℕ) (c : List T) → n ≡ length cs - 1 → slice_get cs n ≡ Some c → last_len cs ≡ length c
  last_at [] n c l e = absurd (none_some c e)
  last_at (b ∷ []) zero c l e = ap length (some_is b c e)
  last_at (b ∷ []) (suc n) c l e = absurd (omega (arith, l))
  last_at (b ∷ (a ∷ cs)) zero c l e = absurd (omega (arith, l))
  last_at (b ∷ (a ∷ cs)) (suc n) c l e = last_at (a ∷ cs) n c (omega (arith, l)) e

  pub last_set : (cs : List (List T)) (n : ℕ) (c d : List T) → slice_get cs n ≡ Some c → length d ≤ length c → last_len (slice_set cs n d) ≤ last_len cs
  last_set [] n c d e l = absurd (none_some c e)
  last_set (b ∷ []) zero c d e l = omega (arith, l, ap length (some_is b c e))
  last_set (b ∷ []) (suc n) c d e l = absurd (none_some c e)
  last_set (b ∷ (a ∷ cs)) zero c d e l = omega arith
  last_set (b ∷ (a ∷ cs)) (suc n) c d e l = last_next (slice_set (a ∷ cs) n d) (some n) (last_set (a ∷ cs) n c d e l)
    where
      some : (n : ℕ) → 0 < length (slice_set (a ∷ cs) n d)
      some zero = omega arith
      some (suc n) = omega arith

      last_next : (ds : List (List T)) → 0 < length ds → last_len ds ≤ last_len (a ∷ cs) → last_len (b ∷ ds) ≤ last_len (a ∷ cs)
      last_next [] s h = absurd (omega (arith, s))
      last_next (d ∷ ds) s h = h

-- a put takes one of the room
pub put_affords : (room more n more' n' : ℕ) → n ≤ n' + 1 → more' + 64 * n ≤ more + 64 * n' + 1 → Affords room more n → Affords (room - 1) more' n'
put_affords room more n more' n' l k (inl a) = inl (omega (arith, l, a))
put_affords room more n more' n' l k (inr a) = by room a
  where
    by : (r : ℕ) → r + more ≤ 64 * n → Affords (r - 1) more' n'
    by zero a = inl (omega arith)
    by (suc r) a = inr (omega (arith, k, a))

-- where there is room there is a spare
pub affords_spare : (room more n : ℕ) → 1 ≤ room → Affords room more n → 0 < n
affords_spare room more n s (inl a) = omega (arith, s, a)
affords_spare room more n s (inr a) = omega (arith, s, a)

pub affords_more : (room more n n' : ℕ) → n ≤ n' → Affords room more n → Affords room more n'
affords_more room more n n' l (inl a) = inl (omega (arith, l, a))
affords_more room more n n' l (inr a) = inr (omega (arith, l, a))

pub affords_less : (room more more' n : ℕ) → more' ≤ more → Affords room more n → Affords room more' n
affords_less room more more' n l (inl a) = inl a
affords_less room more more' n l (inr a) = inr (omega (arith, l, a))

-- with another spare also where there is no chunk any more
pub affords_aside : (room more more' n : ℕ) → more' ≤ more + 63 → Affords room more n → Affords room more' (n + 1)
affords_aside room more more' n l (inl a) = inl (omega (arith, a))
affords_aside room more more' n l (inr a) = inr (omega (arith, l, a))

module _ {T : Type 0} where
  pub wanted_set : (cs : List (List T)) (n : ℕ) (c d : List T) → slice_get cs n ≡ Some c → length d ≤ length c → wanted (slice_set cs n d) ≤ wanted cs
  wanted_set [] n c d e l = absurd (none_some c e)
  wanted_set (b ∷ cs) zero c d e l = omega (arith, l, surplus_set (b ∷ cs) zero c d e)
  wanted_set (b ∷ cs) (suc n) c d e l = omega (arith, l, surplus_set (b ∷ cs) (suc n) c d e)

  removed_len : (cs : List (List T)) (n : ℕ) (c d : List T) → slice_get cs n ≡ Some c → length (remove (slice_set cs n d) n) + 1 ≡ length cs
  removed_len [] n c d e = absurd (none_some c e)
  removed_len (b ∷ cs) zero c d e = omega arith
  removed_len (b ∷ cs) (suc n) c d e = omega (arith, removed_len cs n c d e)

  surplus_aside : (cs : List (List T)) (n : ℕ) (c d : List T) → slice_get cs n ≡ Some c → length d ≡ 0 → surplus (remove (slice_set cs n d) n) + over_half (length c) ≡ surplus cs
  surplus_aside [] n c d e z = absurd (none_some c e)
  surplus_aside (b ∷ cs) zero c d e z = omega (arith, ap (λ (l : List T). over_half (length l)) (some_is b c e))
  surplus_aside (b ∷ cs) (suc n) c d e z = omega (arith, surplus_aside cs n c d e z)

  pub last_some : (cs : List (List T)) → last_len cs < 127 → 0 < length cs
  last_some [] l = absurd (omega (arith, l))
  last_some (c ∷ cs) l = omega arith

  -- ---- what holds of a list's parts after each edit

  pub stocked_more : (cs ss ss' : List (List T)) (h sh h' sh' k r e : ℕ) → AreEmpty ss' → length ss ≤ length ss' → length cs + length ss' ≤ h' → length cs + length ss' ≤ sh' → IsStocked cs ss h sh k r e → IsStocked cs ss' h' sh' k r e
  stocked_more cs ss ss' h sh h' sh' k r e p l f g s = record {
    roomy = s.roomy;
    empty = p;
    fits = f;
    spares_fit = g;
    over = s.over;
    puts = affords_more r (wanted cs) (length ss) (length ss') l s.puts;
    pushes = omega (arith, l, s.pushes);
  }

  pub stocked_room : (cs ss : List (List T)) (h sh k r r' e : ℕ) → Affords r' (wanted cs) (length ss) → IsStocked cs ss h sh k r e → IsStocked cs ss h sh k r' e
  stocked_room cs ss h sh k r r' e a s = record { roomy = s.roomy; empty = s.empty; fits = s.fits; spares_fit = s.spares_fit; over = s.over; puts = a; pushes = s.pushes }

  pub stocked_end : (cs ss : List (List T)) (h sh k r e e' : ℕ) → AffordsEnd e' (last_len cs) (length ss) → IsStocked cs ss h sh k r e → IsStocked cs ss h sh k r e'
  stocked_end cs ss h sh k r e e' a s = record { roomy = s.roomy; empty = s.empty; fits = s.fits; spares_fit = s.spares_fit; over = s.over; puts = s.puts; pushes = a }

  pub stocked_none : (cs ss : List (List T)) (h sh k r e : ℕ) → IsStocked cs ss h sh k r e → IsStocked cs ss h sh k 0 0
  stocked_none cs ss h sh k r e s = record {
    roomy = s.roomy;
    empty = s.empty;
    fits = s.fits;
    spares_fit = s.spares_fit;
    over = s.over;
    puts = inl (omega arith);
    pushes = omega (arith, (last_few cs s.roomy).1);
  }

  -- a chunk of as many elements, or of fewer
  pub stocked_set : (cs ss : List (List T)) (n : ℕ) (c d : List T) (h sh k k' r e : ℕ) → slice_get cs n ≡ Some c → 0 < length d → length d ≤ length c → k' ≡ surplus (slice_set cs n d) → IsStocked cs ss h sh k r e → IsStocked (slice_set cs n d) ss h sh k' r e
  stocked_set cs ss n c d h sh k k' r e g p l q s = record {
    roomy = roomy_set cs n d s.roomy p (omega (arith, l, (roomy_at cs n c g s.roomy).1));
    empty = s.empty;
    fits = omega (arith, s.fits, length-set cs n d);
    spares_fit = omega (arith, s.spares_fit, length-set cs n d);
    over = q;
    puts = affords_less r (wanted cs) (wanted (slice_set cs n d)) (length ss) (wanted_set cs n c d g l) s.puts;
    pushes = omega (arith, s.pushes, last_set cs n c d g l);
  }

  -- a chunk whose last element was taken out became a spare
  pub stocked_aside : (cs ss ss' : List (List T)) (n : ℕ) (c d : List T) (h sh h' sh' k k' r e : ℕ) → slice_get cs n ≡ Some c → length d ≡ 0 → AreEmpty ss' → length ss' ≡ length ss + 1 → h ≤ h' → sh ≤ sh' → k' + over_half (length c) ≡ k → IsStocked cs ss h sh k r e → IsStocked (remove (slice_set cs n d) n) ss' h' sh' k' r e
  stocked_aside cs ss ss' n c d h sh h' sh' k k' r e g z p m f f' q s =
      let us = remove (slice_set cs n d) n in
      let roomy = roomy_removed cs n d s.roomy in
      let less = surplus_aside cs n c d g z in
      let len = removed_len cs n c d g in
      record {
        roomy = roomy;
        empty = p;
        fits = omega (arith, s.fits, len, m, f);
        spares_fit = omega (arith, s.spares_fit, len, m, f');
        over = omega (arith, q, less, s.over);
        puts = subst (Affords r (wanted us)) (sym m) (affords_aside r (wanted cs) (wanted us) (length ss) (omega (arith, wanted_few us, less, surplus_wanted cs)) s.puts);
        pushes = omega (arith, s.pushes, (last_few cs s.roomy).0, (last_few us roomy).1, m);
      }

  -- an element was put
  pub stocked_put : (cs ss cs' ss' : List (List T)) (h sh h' sh' k k' r e : ℕ) → AreRoomy cs' → AreEmpty ss' → length cs' + length ss' ≤ h' → length cs' + length ss' ≤ sh' → k' ≡ surplus cs' → 0 < length cs' → length ss ≤ length ss' + 1 → k' + 64 * length ss ≤ wanted cs + 64 * length ss' + 1 → IsStocked cs ss h sh k r e → IsStocked cs' ss' h' sh' k' (r - 1) 0
  stocked_put cs ss cs' ss' h sh h' sh' k k' r e ro p f g q o l m s = record {
    roomy = ro;
    empty = p;
    fits = f;
    spares_fit = g;
    over = q;
    puts = put_affords r (wanted cs) (length ss) (wanted cs') (length ss') l (omega (arith, m, q, wanted_some cs' o)) s.puts;
    pushes = omega (arith, (last_few cs' ro).1);
  }

  -- an element was pushed
  pub stocked_push : (cs ss cs' ss' : List (List T)) (h sh h' sh' k k' r e : ℕ) → AreRoomy cs' → AreEmpty ss' → length cs' + length ss' ≤ h' → length cs' + length ss' ≤ sh' → k' ≡ surplus cs' → 1 ≤ e → last_len cs' + 127 * length ss ≤ last_len cs + 127 * length ss' + 1 → IsStocked cs ss h sh k r e → IsStocked cs' ss' h' sh' k' 0 (e - 1)
  stocked_push cs ss cs' ss' h sh h' sh' k k' r e ro p f g q o m s = record {
    roomy = ro;
    empty = p;
    fits = f;
    spares_fit = g;
    over = q;
    puts = inl (omega arith);
    pushes = omega (arith, s.pushes, m, o);
  }
