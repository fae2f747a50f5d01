use Rattle.device_model.proofs.HeaderLaws.{length-header, header-object, header-program, header-code}
use Rattle.device_model.proofs.places.header_stands_in_order.Goals as goal

pub returns-clause-long : goal.returns-clause-long
returns-clause-long g = length-header

pub returns-clause-object : goal.returns-clause-object
returns-clause-object g = header-object

pub returns-clause-program : goal.returns-clause-program
returns-clause-program g = header-program

pub returns-clause-code : goal.returns-clause-code
returns-clause-code g = header-code
