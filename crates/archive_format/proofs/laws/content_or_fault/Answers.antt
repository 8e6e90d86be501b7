use Rattle.std.proofs.Common.{◌≡◌, List, ℕ, take, length}
use Rattle.std.specs.Prelude.{nat_lt, Option, Some, None}
use Rattle.archive_format.specs.declared.fault.FormatFault.{FormatFault}
use Rattle.archive_format.specs.Archive.{Taking, start, limit, Content, EndsOf, Refuses}
use Rattle.archive_format.proofs.Fold.{ends_total, ends_unique, content_ends, ends_content}
use Rattle.archive_format.proofs.laws.content_or_fault.Goals as goal

by_end : (bytes : List ℕ) (ts : List Taking) (e : Option FormatFault) → EndsOf bytes ts e → ((f : FormatFault) → Refuses bytes f → ⊥) → (us : List Taking) × Content bytes us
by_end bytes ts None p never = (ts, ends_content bytes ts p)
by_end bytes ts (Some f) p never = absurd (never f (ts, p))

unique : (bytes : List ℕ) (ts us : List Taking) (e f : Option FormatFault) → EndsOf bytes ts e → EndsOf bytes us f → (ts ≡ us) × (e ≡ f)
unique bytes ts us e f p q = ends_unique start 0 (take limit bytes) (nat_lt limit (length bytes)) ts us e f p q

apart : (bytes : List ℕ) (ts : List Taking) (f : FormatFault) → Content bytes ts → Refuses bytes f → ⊥
apart bytes ts f c r = let k = (unique bytes ts r.0 None (Some f) (content_ends bytes ts c) r.1).1 in cc

same_fault : (bytes : List ℕ) (f h : FormatFault) → Refuses bytes f → Refuses bytes h → f ≡ h
same_fault bytes f h r q = let k = (unique bytes r.0 q.0 (Some f) (Some h) r.1 q.1).1 in cc

pub returns : goal.returns
returns c = λ bytes.
    let k = ends_total start 0 (take limit bytes) (nat_lt limit (length bytes)) in (
      (λ never. by_end bytes k.takings k.fault k.ends never),
      (λ ts f p r. apart bytes ts f p r),
      (λ ts us p q. (unique bytes ts us None None (content_ends bytes ts p) (content_ends bytes us q)).0),
      (λ f h r q. same_fault bytes f h r q),
    )
