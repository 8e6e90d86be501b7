-- Codes of rows, by which a proof tells them apart.
use Rattle.std.specs.Prelude.{ℕ, List, refl}
use Rattle.std.specs.Coded.{Coded, code_by, coded×, coded_ℕ, coded_list}
use Rattle.std.specs.FinMap as map
use Rattle.bson_value.specs.declared.namespace.NsName.{NsName}
use Rattle.bson_value.specs.NamespaceOrder.{namespace_cmp}
use Rattle.bson_value.specs.contracts.value.Value as value
use Rattle.json_tree.specs.declared.tree.Tree.{Tree}
use Rattle.json_tree.specs.contracts.tree.Tree as tree
use Rattle.state_model.specs.Keys.{key_cmp}
use Rattle.coll_state.specs.Rows.{Document, Row, Table, Rows}

abbrev pub bytes_code : Coded (List ℕ)
bytes_code = coded_list coded_ℕ

abbrev pub document_code : Coded Document
document_code = coded_list (coded× bytes_code value.the_row.coded)

abbrev pub row_code : Coded Row
row_code = code_by (ℕ × (List ℕ × Document)) (coded× coded_ℕ (coded× bytes_code document_code)) (λ r. (r.no, (r.key, r.document))) (λ p. record { no = p.0; key = p.1.0; document = p.1.1 }) (λ _. refl)

abbrev pub table_code : Coded Table
table_code = code_by (Tree × (map.FinMap key_cmp Tree × (ℕ × (ℕ × List Row))))
    (coded× tree.the_row.coded (coded× (map.code bytes_code tree.the_row.coded) (coded× coded_ℕ (coded× coded_ℕ (coded_list row_code)))))
    (λ t. (t.options, (t.indexes, (t.incarnation, (t.next, t.rows)))))
    (λ p. record { options = p.0; indexes = p.1.0; incarnation = p.1.1.0; next = p.1.1.1.0; rows = p.1.1.1.1 })
    (λ _. refl)

abbrev pub name_code : Coded NsName
name_code = code_by (List ℕ × List ℕ) (coded× bytes_code bytes_code) (λ n. (n.db, n.coll)) (λ p. record { db = p.0; coll = p.1 }) (λ _. refl)

abbrev pub rows_code : Coded Rows
rows_code = code_by (map.FinMap namespace_cmp Table × ℕ) (coded× (map.code name_code table_code) coded_ℕ) (λ s. (s.tables, s.count)) (λ p. record { tables = p.0; count = p.1 }) (λ _. refl)
