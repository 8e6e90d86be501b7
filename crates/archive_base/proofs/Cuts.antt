-- A restore with a filter makes what the filter takes.
use Rattle.std.proofs.Common.{◌≡◌, List, [], ◌∷◌, Bool, true, false, not, cond, refl, sym, ap, ◌∙◌, Option, Some, None}
use Rattle.std.specs.Prelude.{◌&&◌, filter, fold, if◌then◌else◌}
use Rattle.std.specs.FinMap as map
use Rattle.bson_value.specs.declared.namespace.NsName.{NsName}
use Rattle.bson_value.specs.declared.value.Value.{Object}
use Rattle.bson_value.specs.NamespaceOrder.{namespace_cmp}
use Rattle.state_model.specs.Keys.{same_ns}
use Rattle.state_model.specs.States.{State, Collection, no_options, fresh_collection, or_fresh}
use Rattle.state_model.specs.Replay.{put_document}
use Rattle.state_model.specs.Cut.{cut}
use Rattle.state_model.proofs.Maps.{ns_insert_else, ns_map_same}
use Rattle.state_model.proofs.Cut.{get_cut, get_taken, cut_insert, cut_apart, put_taken}
use Rattle.coll_state.specs.Rows.{key_in, id_of}
use Rattle.archive_format.specs.Shapes.{is_oplog}
use Rattle.archive_format.specs.Archive.{Taking, meta, doc, end}
use Rattle.restore_filter.specs.Names.{takes}
use Rattle.restore_plan.specs.declared.plan.Plan.{Plan}
use Rattle.restore_plan.specs.Base.{ns_of, is_of_base, document_taken, options_taken, definitions_taken, described, made, named_step, base_step, base}
use Rattle.archive_base.specs.Laws.{RenamesNone}
use Rattle.archive_base.proofs.Parts.{own_step, full_step, full_from}

made_cut : (f : NsName → Bool) (s : State) (n : NsName) (o : Option Collection) → f n ≡ true → made n o (cut f s) ≡ cut f (made n o s)
made_cut f s n None e = sym (cut_insert f s n (fresh_collection no_options) e)
made_cut f s n (Some c) e = refl

own_cut : (f : NsName → Bool) (s : State) (t : Taking) → f (ns_of t) ≡ true → own_step (cut f s) t ≡ cut f (own_step s t)
own_cut f s (meta n t) e =
    ap (λ (o : Option Collection). map.insert (cut f s) n (described (options_taken t) (definitions_taken t) (or_fresh o))) (get_taken f s n e)
    ∙ sym (cut_insert f s n (described (options_taken t) (definitions_taken t) (or_fresh (map.get s n))) e)
own_cut f s (doc n b) e = sym (put_taken f s n (key_in (id_of (document_taken b))) (Object (document_taken b)) e)
own_cut f s (end n) e = ap (λ (o : Option Collection). made n o (cut f s)) (get_taken f s n e) ∙ made_cut f s n (map.get s n) e

made_else : (s : State) (n q : NsName) (o : Option Collection) → same_ns q n ≡ false → map.get (made n o s) q ≡ map.get s q
made_else s n q None h = ns_insert_else s n (fresh_collection no_options) q h
made_else s n q (Some c) h = refl

own_else : (s : State) (t : Taking) (q : NsName) → same_ns q (ns_of t) ≡ false → map.get (own_step s t) q ≡ map.get s q
own_else s (meta n t) q h = ns_insert_else s n (described (options_taken t) (definitions_taken t) (or_fresh (map.get s n))) q h
own_else s (doc n b) q h = ns_insert_else s n (put_document (key_in (id_of (document_taken b))) (Object (document_taken b)) (or_fresh (map.get s n))) q h
own_else s (end n) q h = made_else s n q (map.get s n) h

nothing_cut : (f : NsName → Bool) → map.empty ≡ cut f map.empty
nothing_cut f = ns_map_same _ _ (λ q. map.get-empty {X = Collection} namespace_cmp q ∙ sym (get_cut f map.empty q ∙ (ap (λ (o : Option Collection). cond (f q) o None) (map.get-empty {X = Collection} namespace_cmp q) ∙ by (f q))))
  where
    by : (b : Bool) → cond {A = Option Collection} b None None ≡ None
    by true = refl
    by false = refl

module _ (p : Plan) (plain : RenamesNone p.filter) where
  steps_cut : (s : State) (ts : List Taking) → fold (base_step p) (cut (takes p.filter) s) (filter (is_of_base p) ts) ≡ cut (takes p.filter) (full_from s ts)
  steps_cut s [] = refl
  steps_cut s (t ∷ ts) = by (λ x. steps_cut x ts) (is_oplog (ns_of t)) (takes p.filter (ns_of t)) refl
    where
      by : ((x : State) → fold (base_step p) (cut (takes p.filter) x) (filter (is_of_base p) ts) ≡ cut (takes p.filter) (full_from x ts)) → (a b : Bool) → takes p.filter (ns_of t) ≡ b → fold (base_step p) (cut (takes p.filter) s) (if not a && b then t ∷ filter (is_of_base p) ts else filter (is_of_base p) ts) ≡ cut (takes p.filter) (full_from (cond a s (own_step s t)) ts)
      by more true b e = more s
      by more false true e =
          ap (λ (x : State). fold (base_step p) x (filter (is_of_base p) ts)) (ap (λ (n : NsName). named_step n (cut (takes p.filter) s) t) (plain (ns_of t)) ∙ own_cut (takes p.filter) s t e)
          ∙ more (own_step s t)
      by more false false e =
          ap (λ (x : State). fold (base_step p) x (filter (is_of_base p) ts)) (sym (cut_apart (takes p.filter) s (own_step s t) (ns_of t) e (λ q h. own_else s t q h)))
          ∙ more (own_step s t)

  pub base_cut : (ts : List Taking) → base p ts ≡ cut (takes p.filter) (full_from map.empty ts)
  base_cut ts = ap (λ (x : State). fold (base_step p) x (filter (is_of_base p) ts)) (nothing_cut (takes p.filter)) ∙ steps_cut map.empty ts
