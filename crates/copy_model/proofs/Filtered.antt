-- What a filter takes of a copy.
use Rattle.std.proofs.Common.{◌≡◌, ◌+◌, List, ◌++◌, Bool, true, false, cond, refl, ap, ◌∙◌, Option, None}
use Rattle.std.specs.Prelude.{option_map}
use Rattle.std.specs.FinMap as map
use Rattle.bson_value.specs.declared.namespace.NsName.{NsName}
use Rattle.state_model.specs.States.{State, Collection}
use Rattle.state_model.specs.Spots.{Inner, Namespace, Inside, here, stands_at}
use Rattle.state_model.specs.Moves.{Move}
use Rattle.state_model.specs.Replay.{replay_all}
use Rattle.state_model.specs.Agreement.{SameStates}
use Rattle.coll_state.specs.Rows.{state_of}
use Rattle.state_model.specs.Cut.{cut, taken}
use Rattle.state_model.specs.Shown.{shown}
use Rattle.state_model.specs.Laws.{CutReplay, SameIsShownAlike}
use Rattle.state_model.proofs.Cut.{get_cut}
use Rattle.copy_model.specs.Copies.{rows_after, moves_of, copy_of}
use Rattle.copy_model.specs.Laws.{copied_over, CopyHeals, CutCopyHeals}

pub space_cut : (b : Bool) (o u : Option Collection) → option_map (λ (c : Collection). here) o ≡ option_map (λ (c : Collection). here) u → option_map (λ (c : Collection). here) (cond b o None) ≡ option_map (λ (c : Collection). here) (cond b u None)
space_cut true o u e = e
space_cut false o u e = refl

pub inside_cut : (b : Bool) (o u : Option Collection) (p : Inner) → stands_at o p ≡ stands_at u p → stands_at (cond b o None) p ≡ stands_at (cond b u None) p
inside_cut true o u p e = e
inside_cut false o u p e = refl

pub same_cut : (f : NsName → Bool) (a b : State) → SameStates a b → SameStates (cut f a) (cut f b)
same_cut f a b h (Namespace n) = rw (get_cut f a n, get_cut f b n) (space_cut (f n) (map.get a n) (map.get b n) (h (Namespace n)))
same_cut f a b h (Inside n p) = rw (get_cut f a n, get_cut f b n) (inside_cut (f n) (map.get a n) (map.get b n) p (h (Inside n p)))

pub cut_listed : CutReplay → SameIsShownAlike → (f : NsName → Bool) (ms : List Move) (y z : State) → SameStates (replay_all ms y) z → shown (replay_all (taken f ms) (cut f y)) ≡ shown (cut f z)
cut_listed replayed alike f ms y z h = ap shown (replayed f ms y) ∙ (alike (cut f (replay_all ms y)) (cut f z)).0 (same_cut f (replay_all ms y) z h)

pub cut_heals : CutReplay → SameIsShownAlike → CopyHeals → CutCopyHeals
cut_heals replayed alike heals f before first es follow ended =
    cut_listed replayed alike f (moves_of first ++ moves_of es) (copy_of (rows_after first before) (copied_over before first es).reads) (state_of (copied_over before first es).rows) (heals before first es follow ended)
