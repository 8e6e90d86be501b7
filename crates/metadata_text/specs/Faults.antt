-- The fault of a text that is no JSON text, as one of metadata.
use Rattle.json_text.specs.declared.fault.JsonFault.{JsonFault}
use Rattle.json_text.specs.declared.fault.JsonFault.TheVariants as json
use Rattle.metadata_text.specs.declared.fault.MetaFault.{MetaFault}
use Rattle.metadata_text.specs.declared.fault.MetaFault.TheVariants as faults

abbrev pub same_fault : JsonFault → MetaFault
same_fault json.NoMemory = faults.NoMemory
same_fault (json.Bad at) = faults.Bad at
