-- Before the first byte.
use Rattle.std.proofs.Common.{◌≡◌, ℕ, ◌++◌, Bool, List, [], take, drop, refl, ap, sym, subst, ◌∙◌, append_assoc, arith}
use Rattle.std.specs.Prelude.{None, Some, Option, Result}
use Rattle.demux.specs.declared.fault.DemuxFault.{DemuxFault}
use Rattle.archive_format.specs.Archive.{Taking, text_of, Stage, start}
use Rattle.std.proofs.lemmas.List.{take-append-drop}
use Rattle.demux.specs.Steps.{AsksFirst}
use Rattle.demux.specs.Told.{Watch, Stands, Turns}
use Rattle.archive_format.proofs.Fold.{clean_none}
use Rattle.std.specs.Io.KnownBytes.{Keeps, Consumes}
use Rattle.demux.proofs.Takings.{took_none}

watch_begins : (first : Option (List ℕ)) → Watch first first start 0 [] []
watch_begins None = tt
watch_begins (Some all) = record { clean = clean_none start 0 all; within = omega arith }

begins_at : {K : Type 0} (first : Option (List ℕ)) (adds : K → Taking → K) (known : Option K) → Stands first first start 0 [] adds known known
begins_at first adds known = record { given = []; watch = watch_begins first; took = took_none adds known }

pub begins : {K : Type 0} (first : Option (List ℕ)) (s : Stage) (held : List ℕ) (adds : K → Taking → K) (known : Option K) → s ≡ start → held ≡ [] → Stands first first s 0 held adds known known
begins first s held adds known e h = subst (λ z. Stands first first z 0 held adds known known) (sym e) (subst (λ z. Stands first first start 0 z adds known known) (sym h) (begins_at first adds known))

-- a turn where the test that is kept stands for the test now
pub turned : {K : Type 0} (r : Result (Option ℕ) DemuxFault) (first before_left now : Option (List ℕ)) (s t : Stage) (at : ℕ) (held after : List ℕ) (adds adds_now : K → Taking → K) (why : Taking → Bool) (before old new : Option K) (rose : Type 0)
    → adds_now ≡ adds → (Stands first before_left s at held adds_now before old → Turns r first now t after adds_now before new why rose) → Stands first before_left s at held adds before old → Turns r first now t after adds before new why rose
turned r first before_left now s t at held after adds adds_now why before old new rose e f h = subst (λ k. Turns r first now t after k before new why rose) e (f (subst (λ k. Stands first before_left s at held k before old) (sym e) h))

pub keeps_same : (x : Option (List ℕ)) → Keeps x x
keeps_same None = tt
keeps_same (Some xs) = refl

pub keeps_none_taken : (x y : Option (List ℕ)) → Consumes x y [] → Keeps x y
keeps_none_taken None y c = tt
keeps_none_taken (Some xs) None c = c
keeps_none_taken (Some xs) (Some ys) c = sym c

-- an item that asks for memory stands behind a clean front of the input
pub cut_asks : (s : Stage) (k : ℕ) (held left : List ℕ) → AsksFirst s (take k held) → AsksFirst s (held ++ left)
cut_asks s k held left a =
    record {
      item = a.item;
      rest = a.rest ++ (drop k held ++ left);
      is = a.is;
      text = ap (λ z. z ++ left) (sym (take-append-drop k held)) ∙ append_assoc (take k held) (drop k held) left ∙ ap (λ z. z ++ (drop k held ++ left)) a.text ∙ append_assoc (text_of a.item) a.rest (drop k held ++ left);
      asks = a.asks;
    }
