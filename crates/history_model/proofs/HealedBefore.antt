-- A run whose outcome is Done, restored up to a limit.
use Rattle.std.proofs.Common.{◌≡◌, List, [], ◌++◌, true, false, not, refl, sym, ap, ◌∙◌, subst, append_assoc, Option, Some}
use Rattle.std.specs.Prelude.{◌&&◌, filter}
use Rattle.bson_value.specs.declared.value.Ts.{Ts}
use Rattle.state_model.specs.Replay.{replay_all}
use Rattle.state_model.specs.Agreement.{SameStates}
use Rattle.copy_model.specs.Copies.{copy_of}
use Rattle.history_model.specs.Stages.{Write, earlier, not_later, first_ts, Made}
use Rattle.history_model.specs.Runs.{Schedule, Done, Run, started, run}
use Rattle.history_model.specs.Histories.{history_of, state, moments_of, moments, outcome}
use Rattle.history_model.specs.Recordings.{made_by, reads_in}
use Rattle.update_records.specs.Laws.{UpdatesRecord}
use Rattle.history_model.specs.WellFormed.{AreWellFormedLines}
use Rattle.history_model.specs.Laws.{StartedOn, Whole}
use Rattle.state_model.specs.Laws.{CutReplay, SameIsShownAlike}
use Rattle.copy_model.specs.Laws.{CopyHeals}
use Rattle.history_model.specs.Histories.{is_before, is_up_to, Moments, at}
use Rattle.history_model.specs.Laws.{IsLate, window_before, HealedBefore}
use Rattle.copy_model.proofs.Filtered.{cut_listed}
use Rattle.history_model.proofs.Inductive.{each_map, none_above, all_above}
use Rattle.history_model.proofs.AtTheMark.{rises_join}
use Rattle.history_model.proofs.WholeRun.{run_started}
use Rattle.history_model.proofs.Finished.{run_whole}
use Rattle.history_model.proofs.HealedRun.{MarkedAt, mark_found}
use Rattle.history_model.proofs.Limited.{history_front}
use Rattle.history_model.proofs.Sent.{window_sent}
use Rattle.history_model.proofs.Before.{parted, healed_before}

with_moments : (m : Moments) (a l e : Ts) → m ≡ record { start = Some a; last_read = Some l; end_ts = Some e } → m ≡ record { start = Some a; last_read = m.last_read; end_ts = Some e }
with_moments m a l e h = λ i. record { start = (h i).start; last_read = m.last_read; end_ts = (h i).end_ts }

healed_of : CopyHeals → CutReplay → SameIsShownAlike → UpdatesRecord → (s : Schedule) (st : StartedOn s.caps (run s)) → (m : MarkedAt st.lines (started st.on) (run s)) → Whole (run s) → HealedBefore s
healed_of heals replayed alike sound s st m w =
    (let r = st.on in
    let t = run s in
    let p = parted sound s.caps r m.at t m.front m.back (m.formed st.formed) st.ok m.made m.live m.rest in
    let made_front = made_by p.front (started r) in
    let whole : t.made ≡ r.made ++ ((made_front ++ p.between) ++ p.behind) =
    p.made_all ∙ (ap (λ (z : List Made). z ++ p.behind) (p.made_mark ∙ ap (λ (z : List Made). z ++ p.between) p.made_last)
    ∙ (ap (λ (z : List Made). z ++ p.behind) (append_assoc r.made made_front p.between) ∙ append_assoc r.made (made_front ++ p.between) p.behind)) in
    let rises = rises_join (made_front ++ p.between) p.behind r.stage.newest m.at.stage.newest t.stage.newest (rises_join made_front p.between r.stage.newest p.at_last.stage.newest m.at.stage.newest p.rises_front p.rises) p.later in
    let end : (moments s).end_ts ≡ Some m.at.stage.newest = ap (λ (z : Moments). z.end_ts) p.moments in
    let heal : (l : Option Ts) → IsLate l p.at_last.stage.newest → SameStates (replay_all (window_before l r.stage.newest m.at.stage.newest t) (copy_of r.stage.rows (reads_in t.steps []))) (at s l) =
    (λ l late. subst (λ (o : Option Ts). SameStates (replay_all (window_before l r.stage.newest m.at.stage.newest t) (copy_of r.stage.rows (reads_in t.steps []))) (state (filter (λ (e : Ts × Write). is_before l e.0 && is_up_to o e.0) (history_of t.made)))) (sym end)
    (healed_before heals sound s.caps r m.at t st.ok st.none p l late)) in
    record {
      rows = r.stage.rows;
      start = r.stage.newest;
      last_read = p.at_last.stage.newest;
      last = m.at.stage.newest;
      moments_are = p.moments;
      at_start = st.ok.0.state ∙ ap state (sym (ap (λ (z : List Made). filter (λ (e : Ts × Write). not_later e.0 r.stage.newest) (history_of z)) whole
          ∙ history_front (λ (ts : Ts). not_later ts r.stage.newest) r.made ((made_front ++ p.between) ++ p.behind)
          (each_map (λ (m : Made). earlier r.stage.newest m.ts ≡ false) (λ (m : Made). not_later m.ts r.stage.newest ≡ true) (λ m f. ap not f) r.made (none_above r.made first_ts r.stage.newest st.ok.0.rises))
          (each_map (λ (m : Made). earlier r.stage.newest m.ts ≡ true) (λ (m : Made). not_later m.ts r.stage.newest ≡ false) (λ m f. ap not f) ((made_front ++ p.between) ++ p.behind) (all_above ((made_front ++ p.between) ++ p.behind) r.stage.newest t.stage.newest rises))));
      sent = window_sent r t st.lines st.none st.whole w r.stage.newest m.at.stage.newest (with_moments (moments_of t.dump) r.stage.newest p.at_last.stage.newest m.at.stage.newest p.moments);
      healed = heal;
      listed = λ f l late. cut_listed replayed alike f (window_before l r.stage.newest m.at.stage.newest t) (copy_of r.stage.rows (reads_in t.steps [])) (at s l) (heal l late);
    })

pub run_healed_before : CopyHeals → CutReplay → SameIsShownAlike → UpdatesRecord → (s : Schedule) → AreWellFormedLines s.lines → outcome s ≡ Done → HealedBefore s
run_healed_before heals replayed alike sound s formed done =
    (let st = run_started sound s formed in
    let w = run_whole sound s formed done in
    let m = mark_found st.lines (started st.on) refl (ap (λ (z : Run). z.outcome) (sym st.whole) ∙ done) (subst Whole st.whole w) in
    healed_of heals replayed alike sound s st (record { front = m.front; back = m.back; at = m.at; made = m.made; live = m.live; rest = st.whole ∙ m.rest; formed = m.formed }) w)
