-- The code of what a store holds, by which a proof tells it apart.
use Rattle.std.specs.Prelude.{refl}
use Rattle.std.specs.Coded.{Coded, code_by, coded×}
use Rattle.coll_state.specs.Codes.{rows_code}
use Rattle.coll_state.specs.Rows.{Rows}
use Rattle.store_log.specs.Logged.{Logged}
use Rattle.store_log.specs.contracts.log.Log as log
use Rattle.store_core.specs.Stores.{Stored}

abbrev pub stored_code : Coded Stored
stored_code = code_by (Rows × Logged) (coded× rows_code log.the_row.coded) (λ s. (s.rows, s.log)) (λ p. record { rows = p.0; log = p.1 }) (λ _. refl)
