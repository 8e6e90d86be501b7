-- The outcome of an input: there is one, and what a run tells shows it.
use Rattle.std.proofs.Common.{◌≡◌, ℕ, Bool, true, List, [], ◌∷◌, ◌++◌, take, length, ◌≤◌, arith, refl, sym, ap, subst, ◌∙◌, inl, inr}
use Rattle.std.specs.Prelude.{Option, Some, None, IsSome, nat_lt, fold, ◌==◌}
use Rattle.bson_value.specs.declared.value.Ts.{Ts}
use Rattle.bson_value.specs.declared.namespace.NsName.{NsName}
use Rattle.archive_format.specs.declared.fault.FormatFault.{FormatFault}
use Rattle.archive_format.specs.Archive.{Taking, start, limit, EndsOf, Content, same_ns}
use Rattle.archive_format.proofs.Fold.{clean_none, ends_total, ends_unique, content_ends, ends_content}
use Rattle.demux.specs.declared.fault.DemuxFault.TheVariants as faults
use Rattle.tool_io.specs.Causes.{Rose}
use Rattle.demux.specs.Told.{Reach, Whole, Wrong, Stop as Stopped, Fault_told, End_told}
use Rattle.state_model.specs.States.{State}
use Rattle.restore_plan.specs.declared.plan.Plan.{Plan}
use Rattle.restore_plan.specs.declared.fault.RestoreFault.{RestoreFault}
use Rattle.restore_plan.specs.declared.fault.RestoreFault.TheVariants.{Metadata, NoId, Entry as Unread}
use Rattle.restore_plan.specs.Base.{restored, bad_at, or_later, first_bad}
use Rattle.restore_plan.specs.Taken.{Contents, nothing, and_taking, with_taking, unless_bad, count_of, is_no_id, is_metadata, same_ts, is_unread, is_same, same_fault}
use Rattle.restore_plan.proofs.Tests.{both, same_numbers, same_names}
use Rattle.restore_plan.proofs.Reasons.{refused_alike}
use Rattle.restore_plan.proofs.Order.{ends_are_last}
use Rattle.restore_plan.proofs.Ripeness.{nothing_missed}
use Rattle.restore_plan.specs.Outcome.{Outcome, restores, refuses, fails, met_at_end, IsAccepted, TakesAll, StopsAt, IsOutcome, IsReadTo, IsRefused, IsUnsettled, OnInput}

-- ---- one outcome

abbrev Same_end : List Taking → List Taking → Option FormatFault → Option FormatFault → Type 0
Same_end ts us e f = (ts ≡ us) × (e ≡ f)

once : (bytes : List ℕ) (ts us : List Taking) (e f : Option FormatFault) → EndsOf bytes ts e → EndsOf bytes us f → Same_end ts us e f
once bytes ts us e f p q = ends_unique start 0 (take limit bytes) (nat_lt limit (length bytes)) ts us e f p q

two : {A B : Type 0} (f : A → Option B) (x y : A) (b : B) → x ≡ y → f x ≡ None → f y ≡ Some b → ⊥
two f x y b e none some =
    let same : None ≡ Some b = sym none ∙ (ap f e ∙ some) in cc

one : {A B : Type 0} (f : A → Option B) (x y : A) (a b : B) → x ≡ y → f x ≡ Some a → f y ≡ Some b → a ≡ b
one f x y a b e is other =
    let same : Some a ≡ Some b = sym is ∙ (ap f e ∙ other) in cc

module _ (p : Plan) (bytes : List ℕ) where
  never_both : (ts us : List Taking) (e f : Option FormatFault) (s : RestoreFault) → EndsOf bytes ts e → EndsOf bytes us f → first_bad p ts ≡ None → first_bad p us ≡ Some s → ⊥
  never_both ts us e f s a b none some = two (first_bad p) ts us s (once bytes ts us e f a b).0 none some

  never_fault : (ts us : List Taking) (f : FormatFault) → EndsOf bytes ts None → EndsOf bytes us (Some f) → ⊥
  never_fault ts us f a b = let k = (once bytes ts us None (Some f) a b).1 in cc

  same_takings : (ts us : List Taking) → Content bytes ts → Content bytes us → ts ≡ us
  same_takings ts us a b = (once bytes ts us None None (content_ends bytes ts a) (content_ends bytes us b)).0

  same_format : (ts us : List Taking) (f h : FormatFault) → EndsOf bytes ts (Some f) → EndsOf bytes us (Some h) → f ≡ h
  same_format ts us f h a b = let k = (once bytes ts us (Some f) (Some h) a b).1 in cc

  never_stopped : (ts : List Taking) (f : RestoreFault) → IsAccepted p bytes ts → StopsAt p bytes f → ⊥
  never_stopped ts f a b = never_both ts b.0 None b.1 f (content_ends bytes ts a.0) b.2 a.1 b.3

  never_refused : (ts us : List Taking) (f : FormatFault) → IsAccepted p bytes ts → EndsOf bytes us (Some f) → ⊥
  never_refused ts us f a b = never_fault ts us f (content_ends bytes ts a.0) b

  same_failure : (f h : RestoreFault) → IsOutcome p bytes (fails f) → IsOutcome p bytes (fails h) → f ≡ h
  same_failure f h (inl a) (inl b) = one (first_bad p) a.0 b.0 f h (once bytes a.0 b.0 a.1 b.1 a.2 b.2).0 a.3 b.3
  same_failure f h (inl a) (inr b) = absurd (never_stopped b.0 f b.1 a)
  same_failure f h (inr a) (inl b) = absurd (never_stopped a.0 h a.1 b)
  same_failure f h (inr a) (inr b) = one (met_at_end p) a.0 b.0 f h (same_takings a.0 b.0 a.1.0 b.1.0) a.2 b.2

  restored_failed : {C : Type 0} (s : State) (f : RestoreFault) → IsOutcome p bytes (restores s) → IsOutcome p bytes (fails f) → C
  restored_failed s f a (inl b) = absurd (never_stopped a.0 f a.1 b)
  restored_failed s f a (inr b) = absurd (two (met_at_end p) a.0 b.0 f (same_takings a.0 b.0 a.1.0 b.1.0) a.2 b.2)

  refused_failed : {C : Type 0} (f : FormatFault) (h : RestoreFault) → IsOutcome p bytes (refuses f) → IsOutcome p bytes (fails h) → C
  refused_failed f h a (inl b) = absurd (never_both a.0 b.0 (Some f) b.1 h a.1 b.2 a.2 b.3)
  refused_failed f h a (inr b) = absurd (never_refused b.0 a.0 f b.1 a.1)

  restored_refused : {C : Type 0} (s : State) (f : FormatFault) → IsOutcome p bytes (restores s) → IsOutcome p bytes (refuses f) → C
  restored_refused s f a b = absurd (never_refused a.0 b.0 f a.1 b.1)

  pub outcome_once : (o q : Outcome) → IsOutcome p bytes o → IsOutcome p bytes q → o ≡ q
  outcome_once (restores s) (restores t) a b = ap restores (a.3 ∙ (ap (restored p) (same_takings a.0 b.0 a.1.0 b.1.0) ∙ sym b.3))
  outcome_once (restores s) (refuses f) a b = restored_refused s f a b
  outcome_once (restores s) (fails f) a b = restored_failed s f a b
  outcome_once (refuses f) (restores s) a b = restored_refused s f b a
  outcome_once (refuses f) (refuses h) a b = ap refuses (same_format a.0 b.0 f h a.1 b.1)
  outcome_once (refuses f) (fails h) a b = refused_failed f h a b
  outcome_once (fails f) (restores s) a b = restored_failed s f b a
  outcome_once (fails f) (refuses h) a b = refused_failed h f b a
  outcome_once (fails f) (fails h) a b = ap fails (same_failure f h a b)

  abbrev Some_outcome : Type 0
  Some_outcome = (o : Outcome) × IsOutcome p bytes o

  by_end : (ts : List Taking) (x : Option RestoreFault) → met_at_end p ts ≡ x → IsAccepted p bytes ts → Some_outcome
  by_end ts None is a = (restores (restored p ts), (ts, a, is, refl))
  by_end ts (Some f) is a = (fails f, inr (ts, a, is))

  by_takings : (ts : List Taking) (e : Option FormatFault) (x : Option RestoreFault) → first_bad p ts ≡ x → EndsOf bytes ts e → Some_outcome
  by_takings ts e (Some f) is a = (fails f, inl (ts, e, a, is))
  by_takings ts (Some f) None is a = (refuses f, (ts, a, is))
  by_takings ts None None is a = by_end ts (met_at_end p ts) refl (ends_content bytes ts a, is)

  pub outcome_total : (o : Outcome) × IsOutcome p bytes o
  outcome_total =
      let k = ends_total start 0 (take limit bytes) (nat_lt limit (length bytes)) in
      by_takings k.takings k.fault (first_bad p k.takings) refl k.ends

-- ---- what is behind others

behind : (o : Option RestoreFault) (p : Plan) (ts us : List Taking) → (first_bad p ts ≡ None → first_bad p (ts ++ us) ≡ first_bad p us) → or_later o (first_bad p ts) ≡ None → or_later o (first_bad p (ts ++ us)) ≡ first_bad p us
behind None p ts us h e = h e
behind (Some s) p ts us h e = cc

pub first_bad-append : (p : Plan) (ts us : List Taking) → first_bad p ts ≡ None → first_bad p (ts ++ us) ≡ first_bad p us
first_bad-append p [] us e = refl
first_bad-append p (t ∷ ts) us e = behind (bad_at p t) p ts us (first_bad-append p ts us) e

same_stamps : (a b : Option Ts) → same_ts a b ≡ true → a ≡ b
same_stamps None None e = refl
same_stamps None (Some b) e = cc
same_stamps (Some a) None e = cc
same_stamps (Some a) (Some b) e =
    let k = both (a.secs == b.secs) (a.inc == b.inc) e in
    let s = same_numbers a.secs b.secs k.0 in
    let i = same_numbers a.inc b.inc k.1 in
    λ j. Some (record { secs = s j; inc = i j })

no_id : (n : NsName) (f : RestoreFault) → is_no_id n f ≡ true → NoId n ≡ f
no_id n (NoId m) e = ap NoId (same_names n m e)
no_id n _ e = absurd cc

metadata : (n : NsName) (at : ℕ) (f : RestoreFault) → is_metadata n at f ≡ true → Metadata n at ≡ f
metadata n at (Metadata m b) e =
    let k = both (same_ns n m) (at == b) e in
    let name = same_names n m k.0 in
    let place = same_numbers at b k.1 in
    λ i. Metadata (name i) (place i)
metadata n at _ e = absurd cc

unread_entry : (ts : Option Ts) (f : RestoreFault) → is_unread ts f ≡ true → Unread ts ≡ f
unread_entry ts (Unread other) e = ap Unread (same_stamps ts other e)
unread_entry ts _ e = absurd cc

same : (f g : RestoreFault) → is_same f g ≡ true → g ≡ f
same f (NoId n) e = no_id n f e
same f (Metadata n at) e = metadata n at f e
same f (Unread ts) e = unread_entry ts f e
same f _ e = absurd cc

one_reason : (f : RestoreFault) (o : Option RestoreFault) → same_fault (Some f) o ≡ true → o ≡ Some f
one_reason f (Some g) e = ap Some (same f g e)
one_reason f None e = absurd cc

-- ---- what a run tells

none_taken : (p : Plan) (given : List Taking) → fold (and_taking p) None given ≡ None
none_taken p [] = refl
none_taken p (t ∷ given) = none_taken p given

-- what was made of what was given: none of it was refused
pub record Made (p : Plan) (c0 c : Contents) (given : List Taking) : Type 0 where
  pub fine : first_bad p given ≡ None
  pub contents : c ≡ fold (with_taking p) c0 given

pub made_of : (p : Plan) (given : List Taking) (c0 c : Contents) → Some c ≡ fold (and_taking p) (Some c0) given → Made p c0 c given
made_of p [] c0 c e = record { fine = refl; contents = cc }
made_of p (t ∷ given) c0 c e = go (bad_at p t) refl (λ c1 f. made_of p given c1 c f)
  where
    go : (o : Option RestoreFault) → bad_at p t ≡ o → ((c1 : Contents) → Some c ≡ fold (and_taking p) (Some c1) given → Made p c1 c given) → Made p c0 c (t ∷ given)
    go None is on =
        let later = on (with_taking p c0 t) (e ∙ ap (λ o. fold (and_taking p) (unless_bad o (with_taking p c0 t)) given) is) in
        record { fine = ap (λ o. or_later o (first_bad p given)) is ∙ later.fine; contents = later.contents }
    go (Some r) is on =
        let none : Some c ≡ None = e ∙ (ap (λ o. fold (and_taking p) (unless_bad o (with_taking p c0 t)) given) is ∙ none_taken p given) in absurd cc

module _ (p : Plan) (c0 c : Contents) (begins : c0 ≡ nothing) where
  made : (given : List Taking) → Some c ≡ fold (and_taking p) (Some c0) given → Made p nothing c given
  made given e = made_of p given nothing c (e ∙ ap (λ (x : Contents). fold (and_taking p) (Some x) given) begins)

  pub takes_all : (all : List ℕ) → Whole all None (and_taking p) (Some (Some c0)) (Some (Some c)) → TakesAll p all c
  takes_all all w =
      let m = made w.given w.took in
      let content = ends_content all w.given w.ends in
      let n = nothing_missed p w.given c m.contents (ends_are_last all w.given content) in
      (w.given, (content, m.fine), n.0, n.1)

  -- what was given is of the front, and none of it is refused
  abbrev read_to : (all : List ℕ) (now : Option (List ℕ)) (given : List Taking) → Some c ≡ fold (and_taking p) (Some c0) given → Reach all now given → IsReadTo p all now
  read_to all now given took reach = record { given = given; fine = (made given took).fine; reach = reach }

  refuses_all : (all : List ℕ) (now : Option (List ℕ)) (f : FormatFault) → Wrong all now f (and_taking p) (Some (Some c0)) (Some (Some c)) → IsRefused p all now (refuses f)
  refuses_all all now f w = (read_to all now w.whole.given w.whole.took w.reach, w.whole.ends)

  stops_all : (all : List ℕ) (now : Option (List ℕ)) (q : Plan) (s : RestoreFault) (o : Option RestoreFault) → and_taking q ≡ and_taking p → o ≡ Some s → Stopped all now (and_taking p) (Some (Some c0)) (Some (Some c)) (λ t. same_fault o (bad_at q t)) → IsRefused p all now (fails s)
  stops_all all now q s o same is w =
      let told : same_fault (Some s) (bad_at q w.refused) ≡ true = subst (λ x. same_fault x (bad_at q w.refused) ≡ true) is w.told in
      (read_to all now w.given w.took w.reach, (w.refused, w.more, w.fault, w.ends, refused_alike p q w.refused s same (one_reason s (bad_at q w.refused) told)))

  pub told_format : (first now : Option (List ℕ)) (f : FormatFault) (why : Taking → Bool) (rose : Type 0) → Fault_told (faults.Format f) first now (and_taking p) (Some (Some c0)) (Some (Some c)) why rose → OnInput first (λ all. IsRefused p all now (refuses f))
  told_format None now f why rose w = tt
  told_format (Some all) now f why rose w = refuses_all all now f w

  pub told_taken : (first now : Option (List ℕ)) → End_told first now (and_taking p) (Some (Some c0)) (Some (Some c)) → OnInput first (λ all. (now ≡ Some []) × TakesAll p all c)
  told_taken None now w = tt
  told_taken (Some all) now w = (w.0, takes_all all w.1)

  pub told_stopped : (first now : Option (List ℕ)) (q : Plan) (s : RestoreFault) (o : Option RestoreFault) (rose : Type 0) → and_taking q ≡ and_taking p → o ≡ Some s → Fault_told faults.Stopped first now (and_taking p) (Some (Some c0)) (Some (Some c)) (λ t. same_fault o (bad_at q t)) rose → OnInput first (λ all. IsRefused p all now (fails s))
  told_stopped None now q s o rose same is w = tt
  told_stopped (Some all) now q s o rose same is w = stops_all all now q s o same is w

  pub told_unsettled : (first now : Option (List ℕ)) (why : Taking → Bool) (rose : Type 0) → Fault_told faults.ReadFault first now (and_taking p) (Some (Some c0)) (Some (Some c)) why rose → OnInput first (λ all. IsUnsettled p all now)
  told_unsettled None now why rose w = tt
  told_unsettled (Some all) now why rose w = (read_to all now w.part.given w.part.took w.part.reach, w.held, w.left, w.now_left, w.is_rest, w.unsettled)

  pub told_starved : (first now : Option (List ℕ)) (why : Taking → Bool) (rose : Type 0) → Fault_told faults.NoMemory first now (and_taking p) (Some (Some c0)) (Some (Some c)) why rose → OnInput first (λ all. IsReadTo p all now)
  told_starved None now why rose w = tt
  told_starved (Some all) now why rose w = read_to all now w.part.given w.part.took w.part.reach

-- before the first read
pub unread : (p : Plan) (first : Option (List ℕ)) → OnInput first (λ all. IsReadTo p all first)
unread p None = tt
unread p (Some all) = record { given = []; fine = refl; reach = record { stage = start; to = 0; rest = all; clean = clean_none start 0 all; near = omega arith } }

pub refused_once : (p : Plan) (bytes : List ℕ) (now : Option (List ℕ)) (o : Outcome) → IsRefused p bytes now o → IsOutcome p bytes o
refused_once p bytes now (restores s) r = absurd r.1
refused_once p bytes now (refuses f) r = (r.0.given, r.1, r.0.fine)
refused_once p bytes now (fails s) r =
    inl (r.0.given ++ (r.1.0 ∷ r.1.1), r.1.2, r.1.3, first_bad-append p r.0.given (r.1.0 ∷ r.1.1) r.0.fine ∙ ap (λ x. or_later x (first_bad p r.1.1)) r.1.4)

-- a taker that stopped has a reason
pub has_stopped : (o : Option RestoreFault) → Rose 0 (count_of o) → IsSome o
has_stopped None r = absurd (let one : 1 ≤ 0 = r in omega (arith, one))
has_stopped (Some s) r = refl
