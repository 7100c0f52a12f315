mod OptionWords
mod Taking
mod GivenValues
mod Forms
mod Numbers
mod Commands
