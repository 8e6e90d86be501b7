-- The laws, from the lemmas on touches.
use Rattle.std.proofs.Common.{refl, inl, inr}
use Rattle.std.proofs.lemmas.Bool.{cases_Bool}
use Rattle.bson_value.proofs.Alike.{alike_looks, looks_alike}
use Rattle.doc_path.specs.Played.{is_left, played_all}
use Rattle.touch_laws.specs.Agree.{any_covers}
use Rattle.touch_laws.specs.Laws.{AgreesWithItself, AgreedIsAlike, MoreTouchesAgree, DifferencesAreCovered, ChangesWhatItCovers, PlayingKeepsSame, PlayingAllKeepsAgreement, DoneStays, RecordIsAlike}
use Rattle.touch_laws.proofs.Cover.{agree_all}
use Rattle.touch_laws.proofs.Frame.{play_keeps}
use Rattle.touch_laws.proofs.Order.{none_covers, all_none}
use Rattle.touch_laws.proofs.Replay.{play_goes}
use Rattle.touch_laws.proofs.Done.{done_same}
use Rattle.touch_laws.proofs.PlayedLaws.{played-all, record_played_law}

pub agrees_with_itself : AgreesWithItself
agrees_with_itself x q e = refl

pub agreed_is_alike : AgreedIsAlike
agreed_is_alike y x = ((λ a. looks_alike y x (λ q. a q refl)), λ s q e. alike_looks y x s q)

pub more_touches_agree : MoreTouchesAgree
more_touches_agree y x ts us more a q e = a q (all_none ts q (λ t i. none_covers us q t e (more t i)))

pub differences_are_covered : DifferencesAreCovered
differences_are_covered y x ts a q differ =
    elim (cases_Bool (any_covers ts q)) [ inl h ↦ h | inr h ↦ absurd (differ (a q h)) ]

pub changes_what_it_covers : ChangesWhatItCovers
changes_what_it_covers f t x fits q e =
    elim (cases_Bool (is_left t)) [
      | inl h ↦ rw h refl
      | inr h ↦ rw h (play_keeps f t x fits q e)
    ]

pub playing_all_keeps_agreement : PlayingAllKeepsAgreement
playing_all_keeps_agreement f ss ts y x none fit a = rw (played-all f ss y none, played-all f ss x none) (agree_all f ss ts y x fit a)

pub playing_keeps_same : PlayingKeepsSame
playing_keeps_same f t d y x h l fits same q e = rw l (play_goes f t d h y x fits same q e)

pub done_stays : DoneStays
done_stays f t v d =
    elim (cases_Bool (is_left t)) [ inl h ↦ rw h refl | inr h ↦ rw h (done_same f t v d) ]

pub record_is_alike : RecordIsAlike
record_is_alike f ss old new none r = looks_alike (played_all f ss old) new (λ q. record_played_law f ss old new none r q)
