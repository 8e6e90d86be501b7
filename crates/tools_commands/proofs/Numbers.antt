-- Numbers tell statuses apart.
use Rattle.std.proofs.Common.{refl, inl, inr}
use Rattle.restore_plan.specs.declared.fault.RestoreFault.TheVariants as faults
use Rattle.tools_commands.specs.declared.status.Status.{Status}
use Rattle.tools_commands.specs.declared.status.Status.TheVariants as is
use Rattle.tools_commands.specs.Statuses.{Numbered}

pub numbered : (s : Status) → Numbered s
numbered is.Done = record {
  done = λ _. refl;
  usage = λ e. absurd cc;
  bad_schedule = λ e. absurd cc;
  bad_archive = λ e. absurd cc;
  rolled = λ e. absurd cc;
  renamed = λ e. absurd cc;
  duplicate_key = λ e. absurd cc;
  parallel_arrays = λ e. absurd cc;
  unknown_operation = λ e. absurd cc;
  read_fault = λ e. absurd cc;
  write_fault = λ e. absurd cc;
  no_memory = λ e. absurd cc;
}
numbered (is.Usage at) = record {
  done = λ e. absurd cc;
  usage = λ _. (at, refl);
  bad_schedule = λ e. absurd cc;
  bad_archive = λ e. absurd cc;
  rolled = λ e. absurd cc;
  renamed = λ e. absurd cc;
  duplicate_key = λ e. absurd cc;
  parallel_arrays = λ e. absurd cc;
  unknown_operation = λ e. absurd cc;
  read_fault = λ e. absurd cc;
  write_fault = λ e. absurd cc;
  no_memory = λ e. absurd cc;
}
numbered (is.BadSchedule line kind) = record {
  done = λ e. absurd cc;
  usage = λ e. absurd cc;
  bad_schedule = λ _. (line, kind, refl);
  bad_archive = λ e. absurd cc;
  rolled = λ e. absurd cc;
  renamed = λ e. absurd cc;
  duplicate_key = λ e. absurd cc;
  parallel_arrays = λ e. absurd cc;
  unknown_operation = λ e. absurd cc;
  read_fault = λ e. absurd cc;
  write_fault = λ e. absurd cc;
  no_memory = λ e. absurd cc;
}
numbered (is.BadArchive f) = record {
  done = λ e. absurd cc;
  usage = λ e. absurd cc;
  bad_schedule = λ e. absurd cc;
  bad_archive = λ _. inl (f, refl);
  rolled = λ e. absurd cc;
  renamed = λ e. absurd cc;
  duplicate_key = λ e. absurd cc;
  parallel_arrays = λ e. absurd cc;
  unknown_operation = λ e. absurd cc;
  read_fault = λ e. absurd cc;
  write_fault = λ e. absurd cc;
  no_memory = λ e. absurd cc;
}
numbered (is.Rolled start oldest) = record {
  done = λ e. absurd cc;
  usage = λ e. absurd cc;
  bad_schedule = λ e. absurd cc;
  bad_archive = λ e. absurd cc;
  rolled = λ _. (start, oldest, refl);
  renamed = λ e. absurd cc;
  duplicate_key = λ e. absurd cc;
  parallel_arrays = λ e. absurd cc;
  unknown_operation = λ e. absurd cc;
  read_fault = λ e. absurd cc;
  write_fault = λ e. absurd cc;
  no_memory = λ e. absurd cc;
}
numbered (is.Renamed ts) = record {
  done = λ e. absurd cc;
  usage = λ e. absurd cc;
  bad_schedule = λ e. absurd cc;
  bad_archive = λ e. absurd cc;
  rolled = λ e. absurd cc;
  renamed = λ _. (ts, refl);
  duplicate_key = λ e. absurd cc;
  parallel_arrays = λ e. absurd cc;
  unknown_operation = λ e. absurd cc;
  read_fault = λ e. absurd cc;
  write_fault = λ e. absurd cc;
  no_memory = λ e. absurd cc;
}
numbered (is.NotRestored (faults.Metadata ns at)) = record {
  done = λ e. absurd cc;
  usage = λ e. absurd cc;
  bad_schedule = λ e. absurd cc;
  bad_archive = λ _. inr (faults.Metadata ns at, refl, refl);
  rolled = λ e. absurd cc;
  renamed = λ e. absurd cc;
  duplicate_key = λ e. absurd cc;
  parallel_arrays = λ e. absurd cc;
  unknown_operation = λ e. absurd cc;
  read_fault = λ e. absurd cc;
  write_fault = λ e. absurd cc;
  no_memory = λ e. absurd cc;
}
numbered (is.NotRestored (faults.NoId ns)) = record {
  done = λ e. absurd cc;
  usage = λ e. absurd cc;
  bad_schedule = λ e. absurd cc;
  bad_archive = λ _. inr (faults.NoId ns, refl, refl);
  rolled = λ e. absurd cc;
  renamed = λ e. absurd cc;
  duplicate_key = λ e. absurd cc;
  parallel_arrays = λ e. absurd cc;
  unknown_operation = λ e. absurd cc;
  read_fault = λ e. absurd cc;
  write_fault = λ e. absurd cc;
  no_memory = λ e. absurd cc;
}
numbered (is.NotRestored (faults.Duplicate ns i a b)) = record {
  done = λ e. absurd cc;
  usage = λ e. absurd cc;
  bad_schedule = λ e. absurd cc;
  bad_archive = λ e. absurd cc;
  rolled = λ e. absurd cc;
  renamed = λ e. absurd cc;
  duplicate_key = λ _. (ns, i, a, b, refl);
  parallel_arrays = λ e. absurd cc;
  unknown_operation = λ e. absurd cc;
  read_fault = λ e. absurd cc;
  write_fault = λ e. absurd cc;
  no_memory = λ e. absurd cc;
}
numbered (is.NotRestored (faults.Parallel ns i a)) = record {
  done = λ e. absurd cc;
  usage = λ e. absurd cc;
  bad_schedule = λ e. absurd cc;
  bad_archive = λ e. absurd cc;
  rolled = λ e. absurd cc;
  renamed = λ e. absurd cc;
  duplicate_key = λ e. absurd cc;
  parallel_arrays = λ _. (ns, i, a, refl);
  unknown_operation = λ e. absurd cc;
  read_fault = λ e. absurd cc;
  write_fault = λ e. absurd cc;
  no_memory = λ e. absurd cc;
}
numbered (is.NotRestored (faults.Entry ts)) = record {
  done = λ e. absurd cc;
  usage = λ e. absurd cc;
  bad_schedule = λ e. absurd cc;
  bad_archive = λ e. absurd cc;
  rolled = λ e. absurd cc;
  renamed = λ e. absurd cc;
  duplicate_key = λ e. absurd cc;
  parallel_arrays = λ e. absurd cc;
  unknown_operation = λ _. (faults.Entry ts, refl, refl);
  read_fault = λ e. absurd cc;
  write_fault = λ e. absurd cc;
  no_memory = λ e. absurd cc;
}
numbered (is.NotRestored (faults.Rename ts)) = record {
  done = λ e. absurd cc;
  usage = λ e. absurd cc;
  bad_schedule = λ e. absurd cc;
  bad_archive = λ e. absurd cc;
  rolled = λ e. absurd cc;
  renamed = λ e. absurd cc;
  duplicate_key = λ e. absurd cc;
  parallel_arrays = λ e. absurd cc;
  unknown_operation = λ _. (faults.Rename ts, refl, refl);
  read_fault = λ e. absurd cc;
  write_fault = λ e. absurd cc;
  no_memory = λ e. absurd cc;
}
numbered (is.NotRestored (faults.OtherCommand ts name)) = record {
  done = λ e. absurd cc;
  usage = λ e. absurd cc;
  bad_schedule = λ e. absurd cc;
  bad_archive = λ e. absurd cc;
  rolled = λ e. absurd cc;
  renamed = λ e. absurd cc;
  duplicate_key = λ e. absurd cc;
  parallel_arrays = λ e. absurd cc;
  unknown_operation = λ _. (faults.OtherCommand ts name, refl, refl);
  read_fault = λ e. absurd cc;
  write_fault = λ e. absurd cc;
  no_memory = λ e. absurd cc;
}
numbered (is.NotRestored faults.NoMemory) = record {
  done = λ e. absurd cc;
  usage = λ e. absurd cc;
  bad_schedule = λ e. absurd cc;
  bad_archive = λ e. absurd cc;
  rolled = λ e. absurd cc;
  renamed = λ e. absurd cc;
  duplicate_key = λ e. absurd cc;
  parallel_arrays = λ e. absurd cc;
  unknown_operation = λ e. absurd cc;
  read_fault = λ e. absurd cc;
  write_fault = λ e. absurd cc;
  no_memory = λ _. inr refl;
}
numbered is.ReadFault = record {
  done = λ e. absurd cc;
  usage = λ e. absurd cc;
  bad_schedule = λ e. absurd cc;
  bad_archive = λ e. absurd cc;
  rolled = λ e. absurd cc;
  renamed = λ e. absurd cc;
  duplicate_key = λ e. absurd cc;
  parallel_arrays = λ e. absurd cc;
  unknown_operation = λ e. absurd cc;
  read_fault = λ _. refl;
  write_fault = λ e. absurd cc;
  no_memory = λ e. absurd cc;
}
numbered is.WriteFault = record {
  done = λ e. absurd cc;
  usage = λ e. absurd cc;
  bad_schedule = λ e. absurd cc;
  bad_archive = λ e. absurd cc;
  rolled = λ e. absurd cc;
  renamed = λ e. absurd cc;
  duplicate_key = λ e. absurd cc;
  parallel_arrays = λ e. absurd cc;
  unknown_operation = λ e. absurd cc;
  read_fault = λ e. absurd cc;
  write_fault = λ _. refl;
  no_memory = λ e. absurd cc;
}
numbered is.NoMemory = record {
  done = λ e. absurd cc;
  usage = λ e. absurd cc;
  bad_schedule = λ e. absurd cc;
  bad_archive = λ e. absurd cc;
  rolled = λ e. absurd cc;
  renamed = λ e. absurd cc;
  duplicate_key = λ e. absurd cc;
  parallel_arrays = λ e. absurd cc;
  unknown_operation = λ e. absurd cc;
  read_fault = λ e. absurd cc;
  write_fault = λ e. absurd cc;
  no_memory = λ _. inl refl;
}
