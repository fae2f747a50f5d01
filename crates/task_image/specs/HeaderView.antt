-- The header of the program, as the definitions have it. This project's own.
use Rattle.task_image.specs.declared.header.Header as code
use Rattle.task_image.specs.Unpacked.{Header}

abbrev pub header_of : code.Header → Header
header_of h = record { format = h.format; cores = h.cores; objects = h.objects; programs = h.programs; tasks = h.tasks; memory = h.memory; records = h.records }
