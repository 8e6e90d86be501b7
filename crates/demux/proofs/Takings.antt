-- What a taker knows, over several takings.
use Rattle.std.proofs.Common.{List, [], ◌∷◌, ◌++◌, ◌≡◌, refl, sym, ap, ◌∙◌}
use Rattle.std.specs.Prelude.{None, Some, Option, fold}
use Rattle.archive_format.specs.Archive.{Taking}
use Rattle.demux.specs.Takes.{Took}

pub fold_join : {K : Type 0} (adds : K → Taking → K) (k : K) (ts us : List Taking) → fold adds k (ts ++ us) ≡ fold adds (fold adds k ts) us
fold_join adds k [] us = refl
fold_join adds k (t ∷ ts) us = fold_join adds (adds k t) ts us

pub took_none : {K : Type 0} (adds : K → Taking → K) (now : Option K) → Took adds now now []
took_none adds None = tt
took_none adds (Some k) = refl

pub took_join : {K : Type 0} (adds : K → Taking → K) (a b c : Option K) (ts us : List Taking) → Took adds a b ts → Took adds b c us → Took adds a c (ts ++ us)
took_join adds None b c ts us p q = tt
took_join adds (Some k) None c ts us p q = absurd p
took_join adds (Some k) (Some l) None ts us p q = absurd q
took_join {K} adds (Some k) (Some l) (Some m) ts us p q = q ∙ ap (λ (x : K). fold adds x us) p ∙ sym (fold_join adds k ts us)
