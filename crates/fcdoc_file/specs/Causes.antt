-- What is wrong with bytes that are not well-formed, as it is told of a document.
use Rattle.fcxml_profile.specs.declared.fault.XmlFault.{XmlFault}
use Rattle.fcxml_profile.specs.declared.fault.XmlCause as x
use Rattle.fcxml_profile.specs.declared.fault.XmlCause.TheVariants as xml
use Rattle.fcdoc_file.specs.declared.load_error.LoadFault.{LoadFault}
use Rattle.fcdoc_file.specs.declared.load_error.LoadCause as l
use Rattle.fcdoc_file.specs.declared.load_error.LoadCause.TheVariants as load

abbrev pub cause_of : x.XmlCause → l.LoadCause
cause_of xml.NotUtf8 = load.NotUtf8
cause_of xml.Character = load.Character
cause_of xml.Truncated = load.Truncated
cause_of xml.Declaration = load.Declaration
cause_of xml.Unbalanced = load.Unbalanced
cause_of xml.Deep = load.Deep
cause_of xml.RepeatedAttribute = load.RepeatedAttribute
cause_of xml.Syntax = load.Syntax

abbrev pub load_fault_of : XmlFault → LoadFault
load_fault_of f = record { place = f.place; cause = cause_of f.cause }
