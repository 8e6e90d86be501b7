-- The items of a group, and the whole document of an entry.
use Rattle.std.proofs.Common.{◌≡◌, ℕ, zero, suc, ◌-◌, ◌<◌, List, [], ◌∷◌, ◌++◌, length, map, take, drop, get_or, refl, sym, ap, ◌∙◌, arith}
use Rattle.std.specs.Prelude.{codes, Option, Some, None, pos}
use Rattle.bson_value.specs.declared.namespace.NsName.{NsName}
use Rattle.bson_value.specs.declared.value.Ts.{Ts}
use Rattle.bson_value.specs.declared.value.Value.{Value, Stamp, Long, Str, Object}
use Rattle.doc_path.specs.declared.parts.Form.{Form}
use Rattle.doc_path.specs.declared.touches.Touch.{Touch}
use Rattle.bson_value.specs.Spelling.{elements_of, document_text, framed}
use Rattle.entry_model.specs.declared.entry.Entry.{Entry}
use Rattle.entry_model.specs.declared.entry.Action.{Action, out-Action, roll-Action, roll-out-Action}
use Rattle.entry_model.specs.declared.entry.Action.TheOpen.{Action-F}
use Rattle.entry_model.specs.declared.entry.Action.TheVariants.{Put, Whole, Delta, Group, outs-Put, outs-Whole, outs-Delta, rolls-Group}
use Rattle.entry_model.specs.Written.{Fields}
use Rattle.entry_model.specs.Spelling.{Body, wall, with_o2, level_limit, document_body, update_body, body_at, body_fields, body_of, item_value, entry_fields}
use Rattle.entry_model.specs.Touches.{written}
use Rattle.entry_writer.specs.Bodies.{plain_fields, whole_fields}
use Rattle.entry_writer.proofs.Bytes.{both_put, field_is}

pub mapped_length : (es : List Entry) → length (map item_value es) ≡ length es
mapped_length [] = refl
mapped_length (e ∷ es) = ap (λ (n : ℕ). suc n) (mapped_length es)

pub mapped_at : (es : List Entry) (i : ℕ) (e : Entry) → i < length es → e ≡ get_or es i e → item_value e ≡ get_or (map item_value es) i (item_value e)
mapped_at [] i e lt is = absurd (omega arith)
mapped_at (x ∷ es) zero e lt is = ap item_value is
mapped_at (x ∷ es) (suc i) e lt is = mapped_at es i e (omega arith) is

pub plain_is : (e : Entry) → ((es : List Entry) → e.action ≡ Group es → ⊥) → plain_fields e.ns e.action ≡ whole_fields e
plain_is e n = ap (λ (b : Body). body_fields b []) (by (out-Action e.action) refl)
  where
    by : (f : Action-F Action Entry) → out-Action e.action ≡ f → body_at (λ es. []) e.ns f ≡ body_at (map item_value) e.ns f
    by Action-F.Nothing h = refl
    by (Action-F.Put doc) h = refl
    by (Action-F.Remove id) h = refl
    by (Action-F.Whole id doc) h = refl
    by (Action-F.Delta id form touches) h = refl
    by (Action-F.Create options) h = refl
    by Action-F.DropColl h = refl
    by Action-F.DropDb h = refl
    by (Action-F.AddIndexes defs) h = refl
    by (Action-F.DropIndex name) h = refl
    by (Action-F.Rename from to) h = refl
    by (Action-F.Group es) h = absurd (n es (sym (roll-out-Action e.action) ∙ (ap roll-Action h ∙ rolls-Group es)))
    by (Action-F.Other name) h = refl

body_tail : (b : Body) (fs : Fields) → body_fields b [] ++ fs ≡ body_fields b fs
body_tail b fs = by b.o2
  where
    by : (o : Option Fields) → (codes "op", Str b.op) ∷ ((codes "ns", Str b.ns) ∷ (with_o2 o ((codes "o", Object b.o) ∷ []) ++ fs)) ≡ (codes "op", Str b.op) ∷ ((codes "ns", Str b.ns) ∷ with_o2 o ((codes "o", Object b.o) ∷ fs))
    by None = refl
    by (Some o2) = refl

abbrev pub front : Ts → Fields
front ts = (codes "ts", Stamp ts) ∷ ((codes "t", Long (pos 1)) ∷ ((codes "v", Long (pos 2)) ∷ []))

pub entry_put : (e : Entry) (a0 a1 a2 a3 a4 : List ℕ) → a0 ≡ 0 ∷ (0 ∷ (0 ∷ (0 ∷ []))) → a1 ≡ a0 ++ elements_of (front e.ts) → a2 ≡ a1 ++ elements_of (whole_fields e) → a3 ≡ a2 ++ elements_of ((codes "wall", wall e.ts.secs) ∷ []) → a4 ≡ take (4 - 4) a3 ++ framed (drop 4 a3) → a4 ≡ document_text (entry_fields e)
entry_put e a0 a1 a2 a3 a4 h0 h1 h2 h3 h4 =
    let last : Fields = (codes "wall", wall e.ts.secs) ∷ [] in
    let behind : a3 ≡ a1 ++ elements_of (body_fields (body_of e) last) = both_put a1 a2 a3 (whole_fields e) last h2 h3 ∙ ap (λ (fs : Fields). a1 ++ elements_of fs) (body_tail (body_of e) last) in
    let whole : a3 ≡ a0 ++ elements_of (entry_fields e) = both_put a0 a1 a3 (front e.ts) (body_fields (body_of e) last) h1 behind in
    h4 ∙ ap (λ (l : List ℕ). framed (drop 4 l)) (whole ∙ ap (λ (l : List ℕ). l ++ elements_of (entry_fields e)) h0)

pub fields_put : (fs : Fields) (a0 a1 a2 : List ℕ) → a0 ≡ 0 ∷ (0 ∷ (0 ∷ (0 ∷ []))) → a1 ≡ a0 ++ elements_of fs → a2 ≡ take (4 - 4) a1 ++ framed (drop 4 a1) → a2 ≡ document_text fs
fields_put fs a0 a1 a2 h0 h1 h2 = h2 ∙ ap (λ (l : List ℕ). framed (drop 4 l)) (h1 ∙ ap (λ (l : List ℕ). l ++ elements_of fs) h0)

-- a document that is given in its bytes, behind other fields
pub spelled_put : (old mid new doc : List ℕ) (xs d : Fields) → mid ≡ old ++ elements_of xs → new ≡ mid ++ 3 ∷ (111 ∷ (0 ∷ doc)) → doc ≡ document_text d → new ≡ old ++ elements_of (xs ++ (codes "o", Object d) ∷ [])
spelled_put old mid new doc xs d a b e =
    both_put old mid new xs ((codes "o", Object d) ∷ []) a
    (b ∙ ap (λ (l : List ℕ). mid ++ 3 ∷ (111 ∷ (0 ∷ l))) e ∙ ap (λ (l : List ℕ). mid ++ l) (field_is (codes "o") d))

-- ---- what is written of single documents

pub put_is : (ts : Ts) (ns : NsName) (d : Fields) → whole_fields (record { ts = ts; ns = ns; action = Put d }) ≡ body_fields (document_body (codes "i") ns d) []
put_is ts ns d = ap (λ (f : Action-F Action Entry). body_fields (body_at (map item_value) ns f) []) (outs-Put d)

pub whole_is : (ts : Ts) (ns : NsName) (id : Value) (d : Fields) → whole_fields (record { ts = ts; ns = ns; action = Whole id d }) ≡ body_fields (update_body ns id d) []
whole_is ts ns id d = ap (λ (f : Action-F Action Entry). body_fields (body_at (map item_value) ns f) []) (outs-Whole id d)

pub delta_is : (ts : Ts) (ns : NsName) (id : Value) (form : Form) (touches : List Touch) → whole_fields (record { ts = ts; ns = ns; action = Delta id form touches }) ≡ body_fields (update_body ns id (written form level_limit touches)) []
delta_is ts ns id form touches = ap (λ (f : Action-F Action Entry). body_fields (body_at (map item_value) ns f) []) (outs-Delta id form touches)
