-- What one turn does to what is known of the whole input.
use Rattle.std.proofs.Common.{◌≡◌, inl, inr, ◌⊎◌, ℕ, ◌+◌, ◌-◌, ◌<◌, ◌≤◌, Bool, true, false, ltb, List, [], ◌∷◌, ◌++◌, length, take, drop, refl, sym, ap, subst, ◌∙◌, append_assoc, arith}
use Rattle.std.specs.Prelude.{None, Some, Option, Result, Ok, Err}
use Rattle.std.proofs.lemmas.List.{append-nil, length-take}
use Rattle.std.proofs.lemmas.Bool.{le-ltb, cases_lt, cases_Bool}
use Rattle.std.specs.Io.KnownBytes.{Consumes, IsAtEnd, Keeps}
use Rattle.archive_format.specs.declared.fault.FormatFault.{FormatFault}
use Rattle.archive_format.specs.declared.fault.FormatFault.TheVariants.{TooLong}
use Rattle.demux.specs.declared.fault.DemuxFault.{DemuxFault}
use Rattle.demux.specs.declared.fault.DemuxFault.TheVariants as faults
use Rattle.archive_format.specs.Archive.{Taking, Stage, Verdict, goes, bad, short, onward, wrong, next, unless_early, judged, step, item_of, limit, ending, early, size_of, is_stop, is_magic, EndsOf}
use Rattle.demux.specs.Takes.{Took}
use Rattle.demux.specs.Steps.{Stuck, AsksFirst}
use Rattle.demux.specs.Told.{Holds, Stands, IsNear, Reach, Whole, Wrong, Part, Stop, Starved, Broken, Tells_fault, Fault_told, End_told, Turns}
use Rattle.archive_format.proofs.Fronts.{early_fits, item_found, met_length}
use Rattle.demux.proofs.Takings.{took_join}
use Rattle.demux.proofs.Begin.{cut_asks}
use Rattle.demux.proofs.Sight.{size, fault_found, too_long, ends_short, first_of_all, goes_on, filled}

module _ {K : Type 0} (adds : K → Taking → K) (before old new : Option K) (why : Taking → Bool) (s : Stage) (at : ℕ) (held : List ℕ) where
  pub item_taken : (first now : Option (List ℕ)) (m : Stage) (one : List Taking) (n : ℕ) → Stands first now s at held adds before old → next s at (take (limit - at) held) ≡ onward m one n → Took adds old new one
      → Stands first now m (at + n) (drop n held) adds before new
  item_taken None now m one n h e t = record { given = h.given ++ one; watch = tt; took = took_join adds before old new h.given one h.took t }
  item_taken (Some all) None m one n h e t = absurd h.watch
  item_taken (Some all) (Some left) m one n h e t =
      record { given = h.given ++ one; watch = (goes_on all s at held left h.given h.watch m one n e).2; took = took_join adds before old new h.given one h.took t }

  took_same : (given : List Taking) → Took adds before old given → Took adds old new [] → Took adds before new given
  took_same given p q = subst (Took adds before new) (append-nil given) (took_join adds before old new given [] p q)

  pub stands_kept : (first now : Option (List ℕ)) → Stands first now s at held adds before old → Took adds old new [] → Stands first now s at held adds before new
  stands_kept first now h t = record { given = h.given; watch = h.watch; took = took_same h.given h.took t }

  module _ (all left : List ℕ) (later : Option (List ℕ)) (given : List Taking) (h : Holds all s at held left given) (room : length held ≤ 16793600) (still : later ≡ Some left) where
    abbrev reach : Reach all later given
    reach = record { stage = s; to = at; rest = held ++ left; clean = h.clean; near = subst (IsNear (length all) at) (sym still) (omega (arith, size all s at held left given h, room)) }

    whole : (f : FormatFault) → next s at (take (limit - at) held) ≡ wrong f → Took adds before old given → Took adds old new [] → Wrong all later f adds before new
    whole f e p q = record { whole = record { given = given; ends = fault_found all s at held left given h f e; took = took_same given p q }; reach = reach }

    abbrev part : Took adds before old given → Took adds old new [] → Part all later adds before new
    part p q = let k = first_of_all all s at held left given h in record { given = given; more = k.0; fault = k.1; ends = k.2; took = took_same given p q; reach = reach }

    stop : (t : Stage) (one : Taking) (n : ℕ) → next s at (take (limit - at) held) ≡ onward t (one ∷ []) n → Took adds before old given → Took adds old new [] → why one ≡ true → Stop all later adds before new why
    stop t one n e p q w =
        let on = (goes_on all s at held left given h t (one ∷ []) n e).2 in
        let k = first_of_all all t (at + n) (drop n held) left (given ++ (one ∷ [])) on in
        record { given = given; refused = one; more = k.0; fault = k.1; ends = subst (λ z. EndsOf all z k.1) (append_assoc given (one ∷ []) k.0) k.2; took = took_same given p q; told = w; reach = reach }

    starved : (rose : Type 0) → rose ⊎ AsksFirst s (take (limit - at) held) → Took adds before old given → Took adds old new [] → Starved all later adds before new rose
    starved rose cause p q = record {
      part = part p q;
      cause = elim cause [ inl r ↦ inl r | inr a ↦ inr (cut_asks s (limit - at) held left a) ];
    }

    broken : next s at held ≡ short → Took adds before old given → Took adds old new [] → Broken all later adds before new
    broken e p q = record { part = part p q; held = held; left = left; now_left = still; is_rest = refl; unsettled = e }

    known_stuck : (rose : Type 0) (f : DemuxFault) → (f ≡ faults.NoMemory → rose ⊎ AsksFirst s (take (limit - at) held)) → Took adds before old given → Stuck f (next s at (take (limit - at) held)) adds old new why
        → Tells_fault f all later adds before new why rose
    known_stuck rose (faults.Format f) cause p u = whole f u.0 p u.1
    known_stuck rose faults.NoMemory cause p u = starved rose (cause refl) p u
    known_stuck rose faults.ReadFault cause p u = absurd u
    known_stuck rose faults.Stopped cause p u = stop u.0 u.1 u.2 u.3 p u.4 u.5

  pub item_stuck : (first now : Option (List ℕ)) (rose : Type 0) (f : DemuxFault) → Stands first now s at held adds before old → length held ≤ 16793600 → (f ≡ faults.NoMemory → rose ⊎ AsksFirst s (take (limit - at) held))
      → Stuck f (next s at (take (limit - at) held)) adds old new why → Fault_told f first now adds before new why rose
  item_stuck None now rose f h room cause u = tt
  item_stuck (Some all) None rose f h room cause u = absurd h.watch
  item_stuck (Some all) (Some left) rose f h room cause u = known_stuck all left (Some left) h.given h.watch room refl rose f cause h.took u

  pub far_told : (first now later : Option (List ℕ)) → Stands first now s at held adds before old → length held ≤ 16793600 → Keeps now later → next s at (take (limit - at) held) ≡ short → limit < at + length held → Took adds old new [] → Fault_told (faults.Format TooLong) first later adds before new why ⊥
  far_told None now later h room k e far t = tt
  far_told (Some all) None later h room k e far t = absurd h.watch
  far_told (Some all) (Some left) None h room k e far t = absurd k
  far_told (Some all) (Some left) (Some after) h room k e far t =
      record { whole = record { given = h.given; ends = too_long all s at held left h.given h.watch e far; took = took_same h.given h.took t }; reach = reach all left (Some after) h.given h.watch room (ap Some k) }

  pub more_held : (first now later : Option (List ℕ)) (bs : List ℕ) → Stands first now s at held adds before old → Consumes now later bs → Took adds old new [] → Stands first later s at (held ++ bs) adds before new
  more_held None now later bs h c t = record { given = h.given; watch = tt; took = took_same h.given h.took t }
  more_held (Some all) None later bs h c t = absurd h.watch
  more_held (Some all) (Some left) None bs h c t = absurd c
  more_held (Some all) (Some left) (Some after) bs h c t = record { given = h.given; watch = filled all s at held bs left after h.given h.watch c; took = took_same h.given h.took t }

  pub read_failed : (first now later : Option (List ℕ)) → Stands first now s at held adds before old → length held ≤ 16793600 → Keeps now later → next s at held ≡ short → Took adds old new [] → Fault_told faults.ReadFault first later adds before new why ⊥
  read_failed None now later h room k e t = tt
  read_failed (Some all) None later h room k e t = absurd h.watch
  read_failed (Some all) (Some left) None h room k e t = absurd k
  read_failed (Some all) (Some left) (Some after) h room k e t = broken all left (Some after) h.given h.watch room (ap Some k) e h.took t

  abbrev done_known : (all left : List ℕ) (e : Option FormatFault) (given : List Taking) → Holds all s at held left given → next s at held ≡ short → at + length held ≤ limit → left ≡ [] → ending false s at held ≡ e → Took adds before old given → Took adds old new [] → Whole all e adds before new
  done_known all left e given h x near none is p q = record { given = given; ends = subst (λ z. EndsOf all given z) is (ends_short all s at held left given h x near none); took = took_same given p q }

  -- the end of the input, behind less than an item
  pub end_refused : (first now later : Option (List ℕ)) (f : FormatFault) → Stands first now s at held adds before old → length held ≤ 16793600 → next s at held ≡ short → at + length held ≤ limit → Consumes now later [] → IsAtEnd later → ending false s at held ≡ Some f → Took adds old new []
      → Fault_told (faults.Format f) first later adds before new why ⊥
  end_refused None now later f h room x near c z is t = tt
  end_refused (Some all) None later f h room x near c z is t = absurd h.watch
  end_refused (Some all) (Some left) None f h room x near c z is t = absurd c
  end_refused (Some all) (Some left) (Some after) f h room x near c z is t =
      record { whole = done_known all left (Some f) h.given h.watch x near (c ∙ z) is h.took t; reach = reach all left (Some after) h.given h.watch room (ap Some (sym c)) }

  pub end_accepted : (first now later : Option (List ℕ)) → Stands first now s at held adds before old → next s at held ≡ short → at + length held ≤ limit → Consumes now later [] → IsAtEnd later → ending false s at held ≡ None → Took adds old new [] → End_told first later adds before new
  end_accepted None now later h x near c z is t = tt
  end_accepted (Some all) None later h x near c z is t = absurd h.watch
  end_accepted (Some all) (Some left) None h x near c z is t = absurd c
  end_accepted (Some all) (Some left) (Some after) h x near c z is t = (ap Some z, done_known all left None h.given h.watch x near (c ∙ z) is h.took t)

any_rose : {K : Type 0} (f : DemuxFault) (all : List ℕ) (now : Option (List ℕ)) (adds : K → Taking → K) (before known : Option K) (why : Taking → Bool) (rose : Type 0) → Tells_fault f all now adds before known why ⊥ → Tells_fault f all now adds before known why rose
any_rose (faults.Format f) all now adds before known why rose t = t
any_rose faults.NoMemory all now adds before known why rose t = record { part = t.part; cause = elim t.cause [ inl never ↦ absurd never | inr asks ↦ inr asks ] }
any_rose faults.ReadFault all now adds before known why rose t = t
any_rose faults.Stopped all now adds before known why rose t = t

-- what is told without want of memory holds whatever the taker found
pub of_no_rose : {K : Type 0} (r : Result (Option ℕ) DemuxFault) (first now : Option (List ℕ)) (s : Stage) (held : List ℕ) (adds : K → Taking → K) (before known : Option K) (why : Taking → Bool) (rose : Type 0)
    → Turns r first now s held adds before known why ⊥ → Turns r first now s held adds before known why rose
of_no_rose (Ok (Some at)) first now s held adds before known why rose t = t
of_no_rose (Ok None) first now s held adds before known why rose t = t
of_no_rose (Err f) None now s held adds before known why rose t = tt
of_no_rose (Err f) (Some all) now s held adds before known why rose t = any_rose f all now adds before known why rose t

pub item_size : (s : Stage) (at : ℕ) (held : List ℕ) (k : ℕ) (m : Stage) (one : List Taking) (n : ℕ) → next s at (take k held) ≡ onward m one n → (4 ≤ n) × (n ≤ length held) × (n ≤ k)
item_size s at held k m one n e =
    let len = met_length s at (take k held) m one n (item_found s at (take k held) m one n e) in
    (len.0, omega (arith, len.1, length-take k held), omega (arith, len.1, length-take k held))

verdict_short : (n : ℕ) (v : Verdict) → judged n v ≡ short → ⊥
verdict_short n (goes t ts) e = cc
verdict_short n (bad f) e = cc

size_fits : (s : Stage) (at : ℕ) (word : List ℕ) → early s.place at word ≡ None → size_of word ≤ 16793600
unfolding size_of
size_fits s at word e = elim (cases_Bool (is_stop word)) [
  | inl y ↦ rw y (omega arith)
  | inr n ↦ elim (cases_Bool (is_magic word)) [
    | inl y ↦ rw (n, y) (omega arith)
    | inr nm ↦ rw (n, nm) (early_fits s.place at word n nm e).1
  ]
]

short_by : (s : Stage) (at : ℕ) (bytes word : List ℕ) (x : Option FormatFault) → early s.place at word ≡ x → unless_early s at bytes word x ≡ short → length bytes < 16793600
short_by s at bytes word (Some f) is e = absurd (cc)
short_by s at bytes word None is e = elim (cases_lt (length bytes) (size_of word)) [
  | inl lt ↦ omega (arith, lt, size_fits s at word is)
  | inr le ↦ absurd (let a : ltb (length bytes) (size_of word) ≡ false = le-ltb _ _ le in verdict_short (size_of word) (step s at (item_of word (take (size_of word) bytes))) (rw a at e))
]

-- less than an item is less than the window holds
pub short_fits : (s : Stage) (at : ℕ) (bytes : List ℕ) → next s at bytes ≡ short → length bytes < 16793600
unfolding next
short_fits s at bytes e = elim (cases_lt (length bytes) 4) [
  | inl lt ↦ omega arith
  | inr le ↦ (let a : ltb (length bytes) 4 ≡ false = le-ltb _ _ le in short_by s at bytes (take 4 bytes) (early s.place at (take 4 bytes)) refl (rw a at e))
]
