-- What small strings and small bytes keep. No public clause cites this module.
use Rattle.std.specs.Prelude.{ℕ, List, string_bytes}
use Rattle.containers.specs.declared.small_string as strings
use Rattle.containers.specs.declared.small_bytes as bytes

abbrev pub stored_bytes : strings.Storage.Storage → List ℕ
stored_bytes (strings.Storage.TheVariants.Inline g s) = s
stored_bytes (strings.Storage.TheVariants.Heap b) = string_bytes b.value

abbrev pub kept_bytes : bytes.Storage.Storage → List ℕ
kept_bytes (bytes.Storage.TheVariants.Inline s) = s
kept_bytes (bytes.Storage.TheVariants.Heap b) = b.value.items
